use Rattle.std.proofs.Common.{◌≡◌, ◌≤◌, length, arith, ℕ, refl}
use Rattle.rt_plain.specs.kernel.State.{State, thread_at}
use Rattle.rt_plain.specs.PlainBoard.{PlainBoard}
use Rattle.rt_plain.specs.runs.Runs.{thread_count}
use Rattle.rt_kernel.specs.Built.{IsBuilt}
use Rattle.rt_kernel.specs.IsKernel.{frame_of}
use Rattle.rt_kernel.specs.View.{state_of}
use Rattle.rt_kernel.proofs.BuiltLemmas.{script-short}
use Rattle.rt_kernel.proofs.KeptLemmas.{on-core, ready-active, ready-once, running-there, running-free, rows-latest}
use Rattle.rt_kernel.proofs.kernel.know_state.Goals as goal

-- there are 256 threads at most
counted : (b : PlainBoard) (n : ℕ) → IsBuilt b → n ≡ thread_count b → n ≤ 256
counted b n built is = let none : thread_count b ≡ length b.threads = rw (built.shell, built.soft) (omega arith) in omega (arith, built.few, is, none)

pub returns-clause-count : goal.returns-clause-count
returns-clause-count c =
    let b = c.args.board.now in
    let none : thread_count b ≡ length b.threads = rw (c.requires.built.shell, c.requires.built.soft) (omega arith) in
    omega (arith, c.requires.kept.count, none)

pub returns-clause-latest : goal.returns-clause-latest
returns-clause-latest c = rows-latest (frame_of c.args.board.now (state_of c.args.state.now)) (state_of c.args.state.now) c.requires.kept

pub returns-clause-free : goal.returns-clause-free
returns-clause-free c core r is = running-free (frame_of c.args.board.now (state_of c.args.state.now)) (state_of c.args.state.now) core r c.requires.kept is

pub returns-clause-moment : goal.returns-clause-moment
returns-clause-moment c = c.requires.kept.live c.requires.built.proper.until refl

pub returns-clause-cores : goal.returns-clause-cores
returns-clause-cores c = c.requires.kept.cores

pub returns-clause-once : goal.returns-clause-once
returns-clause-once c = ready-once (frame_of c.args.board.now (state_of c.args.state.now)) (state_of c.args.state.now) c.requires.kept

pub returns-clause-active : goal.returns-clause-active
returns-clause-active c = ready-active (frame_of c.args.board.now (state_of c.args.state.now)) c.args.state.now c.requires.kept

pub returns-clause-running : goal.returns-clause-running
returns-clause-running c core r is = on-core (frame_of c.args.board.now (state_of c.args.state.now)) c.args.state.now core r c.requires.kept is

pub returns-clause-next : goal.returns-clause-next
returns-clause-next c core r is =
    let s : State = state_of c.args.state.now in
    omega (arith, (running-there (frame_of c.args.board.now s) s core r c.requires.kept is).1, script-short c.args.board.now (thread_at s r).name c.requires.built)
