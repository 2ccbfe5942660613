use Rattle.std.proofs.Common.{◌≡◌, ◌-◌, None, arith, length, refl, sym, ap, ◌∙◌}
use Rattle.rt_plain.proofs.kernel.TallyLemmas.{length-set_at}
use Rattle.mutex_tables.specs.MutexTabled.{MutexTabled}
use Rattle.kernel_tables.specs.Threads.{row_at}
use Rattle.rt_kernel.specs.Limits.{limits_of}
use Rattle.rt_kernel.proofs.StageLemmas.{on-kept, active-kept}
use Rattle.rt_kernel.proofs.RetryCallLemmas.{repeated-built, repeated-levelled, fine-parts, again-does}
use Rattle.rt_kernel.proofs.state.State.again.Goals as goal

pub again_call-requires-clause-built : goal.again_call-requires-clause-built
again_call-requires-clause-built g c = repeated-built c.call.result.now c.call.ensures.repeated

pub again_call-requires-clause-level : goal.again_call-requires-clause-level
again_call-requires-clause-level g c = repeated-levelled c.take_retry.new.self.levels c.call.result.now c.call.ensures.repeated

pub again_call-requires-clause-limits : goal.again_call-requires-clause-limits
again_call-requires-clause-limits g c = ap limits_of c.take_retry.ensures.state ∙ c.requires.limits

pub again_call-requires-clause-timed : goal.again_call-requires-clause-timed
again_call-requires-clause-timed g c = (fine-parts c.args.self.now.armed.moment (row_at c.args.self.now.tables.threads c.args.t).retry c.in-Some.retry c.call.result.now (sym c.take_retry.ensures.retry ∙ c.in-Some.is) c.call.ensures.what c.requires.fine).0

pub again_call-requires-clause-near : goal.again_call-requires-clause-near
again_call-requires-clause-near g c d is = (fine-parts c.args.self.now.armed.moment (row_at c.args.self.now.tables.threads c.args.t).retry c.in-Some.retry c.call.result.now (sym c.take_retry.ensures.retry ∙ c.in-Some.is) c.call.ensures.what c.requires.fine).1 d (sym c.due.ensures ∙ is)

pub again_call-requires-clause-there : goal.again_call-requires-clause-there
again_call-requires-clause-there g c = on-kept c.args.self.now.tables c.take_retry.new.self c.args.t c.args.t (record (row_at c.args.self.now.tables.threads c.args.t) { retry = None }) refl c.take_retry.ensures.state c.requires.there

pub again_call-requires-clause-room : goal.again_call-requires-clause-room
again_call-requires-clause-room g c =
    let same : length c.take_retry.new.self.threads ≡ length c.args.self.now.tables.threads = ap (λ (k : MutexTabled). length k.threads) c.take_retry.ensures.state ∙ length-set_at c.args.self.now.tables.threads c.args.t (record (row_at c.args.self.now.tables.threads c.args.t) { retry = None }) in
    record { latest = c.requires.room.latest; moment = c.requires.room.moment; number = c.requires.room.number; active = active-kept c.args.self.now.tables c.take_retry.new.self c.args.t (record (row_at c.args.self.now.tables.threads c.args.t) { retry = None }) refl c.take_retry.ensures.state c.requires.room.active; once = rw c.take_retry.ensures.state c.requires.room.once; free = rw c.take_retry.ensures.state c.requires.room.free; lines = omega (arith, c.requires.room.lines, same) }

pub returns : goal.returns
returns g c = record {
  retry = c.in-Some.retry;
  call = c.call.result.now;
  is = sym c.take_retry.ensures.retry ∙ c.in-Some.is;
  what = c.call.ensures.what;
  repeated = c.call.ensures.repeated;
  does = again-does c.args.board.now c.args.t c.args.core c.args.self.now c.again_call.new.self c.take_retry.new.self c.args.out.now c.again_call.new.out c.again_call.result c.call.result.now c.due.result c.in-Some.retry.due c.saturating_sub-k.result c.take_retry.ensures.state (c.saturating_sub-k.ensures ∙ ap (λ n. n - 1) c.next.ensures) c.due.ensures c.again_call.ensures;
}
