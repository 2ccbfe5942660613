use Rattle.std.proofs.Common.{◌≡◌, ◌+◌, ◌≤◌, arith, length, refl}
use Rattle.rt_kernel.specs.Caller.{plain_attempt, plain_by}
use Rattle.rt_kernel.specs.View.{state_of}
use Rattle.rt_kernel.proofs.NextCallLemmas.{kill_settles, resume_settles, settle_does, still_does}
use Rattle.rt_kernel.proofs.state.State.thread_call.Goals as goal

pub returns-in-Delay-clause-does : goal.returns-in-Delay-clause-does
returns-in-Delay-clause-does g c = still_does c.args.board.now c.args.self.now c.delay.new.self c.args.out.now c.delay.new.out c.delay.result 0 (1 + length c.args.self.now.tables.threads) c.args.call.now _ c.args.by (plain_attempt c.args.attempt) c.in-Delay.is (omega arith) refl refl c.requires.there c.requires.room.active c.delay.ensures

pub returns-in-Yield-clause-does : goal.returns-in-Yield-clause-does
returns-in-Yield-clause-does g c = still_does c.args.board.now c.args.self.now c.yield_now.new.self c.args.out.now c.yield_now.new.out c.yield_now.result 0 (1 + length c.args.self.now.tables.threads) c.args.call.now _ c.args.by (plain_attempt c.args.attempt) c.in-Yield.is (omega arith) refl refl c.requires.there c.requires.room.active c.yield_now.ensures

pub returns-in-Startup-clause-does : goal.returns-in-Startup-clause-does
returns-in-Startup-clause-does g c = still_does c.args.board.now c.args.self.now c.startup.new.self c.args.out.now c.startup.new.out c.startup.result 1 (1 + length c.args.self.now.tables.threads) c.args.call.now _ c.args.by (plain_attempt c.args.attempt) c.in-Startup.is (omega arith) refl refl c.requires.there c.requires.room.active c.startup.ensures

pub returns-in-Suspend-clause-does : goal.returns-in-Suspend-clause-does
returns-in-Suspend-clause-does g c = still_does c.args.board.now c.args.self.now c.suspend_named.new.self c.args.out.now c.suspend_named.new.out c.suspend_named.result 0 (1 + length c.args.self.now.tables.threads) c.args.call.now _ c.args.by (plain_attempt c.args.attempt) c.in-Suspend.is (omega arith) refl refl c.requires.there c.requires.room.active c.suspend_named.ensures

pub returns-in-SchedLock-clause-does : goal.returns-in-SchedLock-clause-does
returns-in-SchedLock-clause-does g c = still_does c.args.board.now c.args.self.now c.sched_lock.new.self c.args.out.now c.sched_lock.new.out c.sched_lock.result 0 (1 + length c.args.self.now.tables.threads) c.args.call.now _ c.args.by (plain_attempt c.args.attempt) c.in-SchedLock.is (omega arith) refl refl c.requires.there c.requires.room.active c.sched_lock.ensures

pub returns-in-SchedUnlock-clause-does : goal.returns-in-SchedUnlock-clause-does
returns-in-SchedUnlock-clause-does g c = still_does c.args.board.now c.args.self.now c.sched_unlock.new.self c.args.out.now c.sched_unlock.new.out c.sched_unlock.result 0 (1 + length c.args.self.now.tables.threads) c.args.call.now _ c.args.by (plain_attempt c.args.attempt) c.in-SchedUnlock.is (omega arith) refl refl c.requires.there c.requires.room.active c.sched_unlock.ensures

pub returns-in-Lock-clause-does : goal.returns-in-Lock-clause-does
returns-in-Lock-clause-does g c = still_does c.args.board.now c.args.self.now c.lock.new.self c.args.out.now c.lock.new.out c.lock.result 0 (1 + length c.args.self.now.tables.threads) c.args.call.now _ c.args.by (plain_attempt c.args.attempt) c.in-Lock.is (omega arith) refl refl c.requires.there c.requires.room.active c.lock.ensures

pub returns-in-Unlock-clause-does : goal.returns-in-Unlock-clause-does
returns-in-Unlock-clause-does g c = still_does c.args.board.now c.args.self.now c.unlock.new.self c.args.out.now c.unlock.new.out c.unlock.result 0 (1 + length c.args.self.now.tables.threads) c.args.call.now _ c.args.by (plain_attempt c.args.attempt) c.in-Unlock.is (omega arith) refl refl c.requires.there c.requires.room.active c.unlock.ensures

pub returns-in-Resume-clause-does : goal.returns-in-Resume-clause-does
returns-in-Resume-clause-does g c = settle_does c.args.board.now c.args.self.now c.resume.new.self c.args.out.now c.resume.new.out c.resume.result 1 (1 + length c.args.self.now.tables.threads) c.args.call.now c.args.by (plain_attempt c.args.attempt) _ (resume_settles c.args.board.now (state_of c.args.self.now) c.args.call.now _ (plain_by (state_of c.args.self.now) c.args.by) (plain_attempt c.args.attempt) c.in-Resume.is c.know_waits.ensures) (omega arith) c.resume.ensures

pub returns-in-Kill-clause-does : goal.returns-in-Kill-clause-does
returns-in-Kill-clause-does g c = settle_does c.args.board.now c.args.self.now c.kill.new.self c.args.out.now c.kill.new.out c.kill.result 1 (1 + length c.args.self.now.tables.threads) c.args.call.now c.args.by (plain_attempt c.args.attempt) _ (kill_settles c.args.board.now (state_of c.args.self.now) c.args.call.now _ (plain_by (state_of c.args.self.now) c.args.by) (plain_attempt c.args.attempt) c.in-Kill.is c.requires.room.free c.know_waits.ensures) (omega arith) c.kill.ensures
