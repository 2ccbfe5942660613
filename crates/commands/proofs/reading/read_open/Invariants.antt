use Rattle.std.proofs.Common.{◌≡◌, ◌-◌, ◌+◌, ◌≤◌, vec_len}
use Rattle.commands.specs.Reads.{IsReading}
use Rattle.commands.proofs.reading.read_open.Given as goal

abbrev pub invariant-loop-text : goal.invariant-loop-text
invariant-loop-text g l = record {
  reading : IsReading (g.F.Files.left l.initial.files) (g.F.Files.left l.files) l.text.items;
  fits : vec_len l.text ≤ l.most + 1;
  faults : g.F.Files.faults l.initial.files ≤ g.F.Files.faults l.files;
  missing : g.F.Files.missing l.initial.files ≤ g.F.Files.missing l.files;
  held : g.F.Files.held l.files ≡ g.F.Files.held l.initial.files;
  taken : g.F.Files.taken l.files ≤ g.F.Files.taken l.initial.files + vec_len l.text;
}

abbrev pub decreases-loop-text : goal.decreases-loop-text
decreases-loop-text g l = l.most + 1 - vec_len l.text
