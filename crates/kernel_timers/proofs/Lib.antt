pub mod AlarmLemmas
pub mod RowLemmas
pub mod StartLemmas
pub mod TimerLemmas
