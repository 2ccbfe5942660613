use Rattle.std.proofs.Common.{◌≡◌, ◌⊎◌, ◌∙◌, ℕ, ap, subst, sym}
use Rattle.commands.specs.Ending.{message}
use Rattle.commands.proofs.SaidLemmas.{said}
use Rattle.commands.proofs.CommandLemmas.{IsCaused, refused-comes, unbuilt-comes, limited-comes, unlike-comes, done-comes, absent-comes, first-absent-comes, refused-by, unlike-by, missing-by, names-same}
use Rattle.commands.proofs.command.rtsim.Goals as goal

pub returns-clause-absent : goal.returns-clause-absent
returns-clause-absent g c = λ is. missing-by _ _ c.perform-ending.result c.perform-ending.ensures.cause (sym c.status.ensures ∙ is)

pub returns-clause-refused : goal.returns-clause-refused
returns-clause-refused g c = λ is. refused-by _ _ c.perform-ending.result c.perform-ending.ensures.cause (sym c.status.ensures ∙ is)

pub returns-clause-unlike : goal.returns-clause-unlike
returns-clause-unlike g c = λ is. unlike-by _ _ c.perform-ending.result c.perform-ending.ensures.cause (sym c.status.ensures ∙ is)

pub returns-clause-refused_comes : goal.returns-clause-refused_comes
returns-clause-refused_comes g c = λ steady asks.
    let by = c.perform-ending.ensures in
    subst (λ (status : ℕ). (status ≡ 6) ⊎ (status ≡ 9)) (sym c.status.ensures)
    (refused-comes (record { one = c.texts_are_one_board.ensures; good = λ bytes. (c.texts_without_a_bad_line_are_boards.ensures bytes).1 }) _ _ _ _ _ (record {
      usage = by.usage.0;
      done = by.done;
      absent = by.absent;
      readable = λ is. steady (by.unreadable is);
      begun = by.begun;
      cause = by.cause;
      found = by.found;
    }) asks)

pub returns-clause-unbuilt_comes : goal.returns-clause-unbuilt_comes
returns-clause-unbuilt_comes g c = λ steady asks.
    let by = c.perform-ending.ensures in
    subst (λ (status : ℕ). (status ≡ 10) ⊎ (status ≡ 9)) (sym c.status.ensures)
    (unbuilt-comes (record { one = c.texts_are_one_board.ensures; good = λ bytes. (c.texts_without_a_bad_line_are_boards.ensures bytes).1 }) _ _ _ _ _ (record {
      usage = by.usage.0;
      done = by.done;
      absent = by.absent;
      readable = λ is. steady (by.unreadable is);
      begun = by.begun;
      cause = by.cause;
      found = by.found;
    }) asks)

pub returns-clause-limited_comes : goal.returns-clause-limited_comes
returns-clause-limited_comes g c = λ steady asks.
    let by = c.perform-ending.ensures in
    subst (λ (status : ℕ). (status ≡ 7) ⊎ (status ≡ 9)) (sym c.status.ensures)
    (limited-comes (record { one = c.texts_are_one_board.ensures; good = λ bytes. (c.texts_without_a_bad_line_are_boards.ensures bytes).1 }) _ _ _ _ _ (record {
      usage = by.usage.0;
      done = by.done;
      absent = by.absent;
      readable = λ is. steady (by.unreadable is);
      begun = by.begun;
      cause = by.cause;
      found = by.found;
    }) asks)

pub returns-clause-unlike_comes : goal.returns-clause-unlike_comes
returns-clause-unlike_comes g c = λ steady asks.
    let by = c.perform-ending.ensures in
    subst (λ (status : ℕ). (status ≡ 8) ⊎ (status ≡ 9)) (sym c.status.ensures)
    (unlike-comes (record { one = c.texts_are_one_board.ensures; good = λ bytes. (c.texts_without_a_bad_line_are_boards.ensures bytes).1 }) _ _ _ _ _ (record {
      usage = by.usage.0;
      done = by.done;
      absent = by.absent;
      readable = λ is. steady (by.unreadable is);
      begun = by.begun;
      cause = by.cause;
      found = by.found;
    }) asks)

pub returns-clause-done_comes : goal.returns-clause-done_comes
returns-clause-done_comes g c = λ steady writable asks.
    let by = c.perform-ending.ensures in
    subst (λ (status : ℕ). (status ≡ 0) ⊎ (status ≡ 9)) (sym c.status.ensures)
    (done-comes (record { one = c.texts_are_one_board.ensures; good = λ bytes. (c.texts_without_a_bad_line_are_boards.ensures bytes).1 }) _ _ _ _ _ (record {
      usage = by.usage.0;
      done = by.done;
      absent = by.absent;
      readable = λ is. steady (by.unreadable is);
      begun = by.begun;
      cause = by.cause;
      found = by.found;
    }) (λ is. writable (by.unwritable is)) asks)

pub returns-clause-absent_comes : goal.returns-clause-absent_comes
returns-clause-absent_comes g c = λ steady lacks.
    let by = c.perform-ending.ensures in
    subst (λ (status : ℕ). (status ≡ 3) ⊎ (status ≡ 9)) (sym c.status.ensures)
    (absent-comes _ _ _ _ c.perform-ending.result (record {
      usage = by.usage.0;
      done = by.done;
      absent = by.absent;
      readable = λ is. steady (by.unreadable is);
      begun = by.begun;
      cause = by.cause;
      found = by.found;
    }) lacks)

pub returns-clause-first_absent_comes : goal.returns-clause-first_absent_comes
returns-clause-first_absent_comes g c = λ steady lacks.
    let by = c.perform-ending.ensures in
    c.status.ensures ∙ first-absent-comes _ _ _ _ c.perform-ending.result (record {
      usage = by.usage.0;
      done = by.done;
      absent = by.absent;
      readable = λ is. steady (by.unreadable is);
      begun = by.begun;
      cause = by.cause;
      found = by.found;
    }) lacks

pub returns-clause-told : goal.returns-clause-told
returns-clause-told g c = record {
  ending = c.perform-ending.result;
  status_is = c.status.ensures;
  cause = c.perform-ending.ensures.cause;
  said = said c.say.result _ _ _ _ _ _ (names-same _ _ _ c.perform-ending.result c.named_file-trace.ensures c.named_file-board.ensures) c.say.ensures.ok c.say.ensures.front c.say.ensures.failed;
}
