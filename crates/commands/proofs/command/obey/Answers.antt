use Rattle.std.proofs.Common.{◌≡◌, List, ℕ, ap, sym, subst}
use Rattle.rt_plain.specs.runs.Commands.{Command}
use Rattle.commands.specs.Asked.{HasEnded}
use Rattle.commands.specs.Boards.{IsText}
use Rattle.commands.specs.Command.{files_of, plain}
use Rattle.commands.specs.Held.{IfAllHeld}
use Rattle.commands.proofs.CommandLemmas.{put-ended}
use Rattle.commands.proofs.command.obey.Goals as goal

pub returns-in-Ok-replay_files-clause-ended : goal.returns-in-Ok-replay_files-clause-ended
returns-in-Ok-replay_files-clause-ended g c =
    let held = g.F.Files.held c.args.files.now in
    let missing = g.F.Files.missing c.args.files.now in
    let missing' = g.F.Files.missing c.replay_files.new.files in
    let faults = g.F.Files.faults c.args.files.now in
    let faults' = g.F.Files.faults c.replay_files.new.files in
    let old = g.O.Sink.holds c.args.out.now in
    let new = g.O.Sink.holds c.put_text-in-Ok-replay_files.new.out in
    let out = g.O.Sink.faults c.args.out.now in
    let out' = g.O.Sink.faults c.put_text-in-Ok-replay_files.new.out in
    let ending = c.put_text-in-Ok-replay_files.result in
    let replay : Command = Command.Replay c.in-Replay.trace.now c.in-Replay.file.now in
    let put = c.put_text-in-Ok-replay_files.ensures in
    subst (λ (x : Command). HasEnded x held missing missing' faults faults' old new out out' ending) (sym (ap plain c.in-Replay.is))
    (put-ended replay held missing missing' faults faults' old new out out' c.deref.result.now ending
    (subst (λ (x : List ℕ). IfAllHeld held (files_of replay) (λ contents. IsText replay contents x)) (sym c.deref.ensures.value) c.in-Ok-replay_files.ensures.text)
    put.either put.done put.unwritable put.begun)
