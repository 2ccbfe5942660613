-- What holds of runs.
pub mod RunLemmas
pub mod ReachedLemmas
pub mod WithinLemmas
pub mod CompleteLemmas
pub mod SameLemmas
pub mod FuelLemmas
pub mod FollowLemmas
pub mod LastingLemmas
pub mod AgreeLemmas
pub mod GoodLemmas
pub mod RunnableLemmas
pub mod RoomLemmas
pub mod DeedLemmas
pub mod AlikeLemmas
pub mod TicklessLemmas
pub mod GeneratedLemmas
