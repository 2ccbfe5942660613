use Rattle.std.proofs.Common.{◌+◌, ◌≤◌, Some, arith, length, refl, sym, ap, ◌∙◌}
use Rattle.rt_kernel.specs.Caller.{plain_attempt}
use Rattle.rt_kernel.specs.declared.built.Subject.{Subject}
use Rattle.rt_kernel.proofs.DoesLemmas.{does_by}
use Rattle.rt_kernel.proofs.NextCallLemmas.{object_settles, settle_does}
use Rattle.rt_kernel.proofs.state.State.act.Goals as goal

pub returns-in-Sem-clause-does : goal.returns-in-Sem-clause-does
returns-in-Sem-clause-does g c = does_by (object_settles c.args.board.now c.args.self.now c.args.call.now c.args.by (plain_attempt c.args.attempt) Subject.Sem (sym c.in-Some.ensures ∙ ap (λ (x : Subject). Some x) c.in-Sem.is) refl c.requires.there c.requires.room.active) c.sem_call.ensures

pub returns-in-Event-clause-does : goal.returns-in-Event-clause-does
returns-in-Event-clause-does g c = does_by (object_settles c.args.board.now c.args.self.now c.args.call.now c.args.by (plain_attempt c.args.attempt) Subject.Event (sym c.in-Some.ensures ∙ ap (λ (x : Subject). Some x) c.in-Event.is) refl c.requires.there c.requires.room.active) c.event_call.ensures

pub returns-in-Mailbox-clause-does : goal.returns-in-Mailbox-clause-does
returns-in-Mailbox-clause-does g c = does_by (object_settles c.args.board.now c.args.self.now c.args.call.now c.args.by (plain_attempt c.args.attempt) Subject.Mailbox (sym c.in-Some.ensures ∙ ap (λ (x : Subject). Some x) c.in-Mailbox.is) refl c.requires.there c.requires.room.active) c.mailbox_call.ensures

pub returns-in-Queue-clause-does : goal.returns-in-Queue-clause-does
returns-in-Queue-clause-does g c = does_by (object_settles c.args.board.now c.args.self.now c.args.call.now c.args.by (plain_attempt c.args.attempt) Subject.Queue (sym c.in-Some.ensures ∙ ap (λ (x : Subject). Some x) c.in-Queue.is) refl c.requires.there c.requires.room.active) c.queue_call.ensures

pub returns-in-Timer-clause-does : goal.returns-in-Timer-clause-does
returns-in-Timer-clause-does g c = settle_does c.args.board.now c.args.self.now c.timer_call.new.self c.args.out.now c.timer_call.new.out c.timer_call.result 0 (1 + length c.args.self.now.tables.threads) c.args.call.now c.args.by (plain_attempt c.args.attempt) _ (object_settles c.args.board.now c.args.self.now c.args.call.now c.args.by (plain_attempt c.args.attempt) Subject.Timer (sym c.in-Some.ensures ∙ ap (λ (x : Subject). Some x) c.in-Timer.is) refl c.requires.there c.requires.room.active) (omega arith) c.timer_call.ensures

pub returns-in-Device-clause-does : goal.returns-in-Device-clause-does
returns-in-Device-clause-does g c = settle_does c.args.board.now c.args.self.now c.device_call.new.self c.args.out.now c.device_call.new.out c.device_call.result 1 (1 + length c.args.self.now.tables.threads) c.args.call.now c.args.by (plain_attempt c.args.attempt) _ (object_settles c.args.board.now c.args.self.now c.args.call.now c.args.by (plain_attempt c.args.attempt) Subject.Device (sym c.in-Some.ensures ∙ ap (λ (x : Subject). Some x) c.in-Device.is) refl c.requires.there c.requires.room.active) (omega arith) c.device_call.ensures

pub returns-in-Pool-clause-does : goal.returns-in-Pool-clause-does
returns-in-Pool-clause-does g c = settle_does c.args.board.now c.args.self.now c.pool_call.new.self c.args.out.now c.pool_call.new.out c.pool_call.result 1 (1 + length c.args.self.now.tables.threads) c.args.call.now c.args.by (plain_attempt c.args.attempt) _ (object_settles c.args.board.now c.args.self.now c.args.call.now c.args.by (plain_attempt c.args.attempt) Subject.Pool (sym c.in-Some.ensures ∙ ap (λ (x : Subject). Some x) c.in-Pool.is) refl c.requires.there c.requires.room.active) (omega arith) c.pool_call.ensures
