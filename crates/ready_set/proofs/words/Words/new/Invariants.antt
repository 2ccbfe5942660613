use Rattle.std.proofs.Common.{◌≡◌, ◌≤◌, replicate, vec_len}
use Rattle.std.specs.Vec.{vec_capacity}
use Rattle.ready_set.proofs.words.Words.new.Given as goal

abbrev pub invariant-loop-place : goal.invariant-loop-place
invariant-loop-place g l = record { so_far : l.words.items ≡ replicate l._place l.word; long : vec_len l.words ≡ l._place; room : l.count ≤ vec_capacity l.words }
