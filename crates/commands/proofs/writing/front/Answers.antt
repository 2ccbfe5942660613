use Rattle.std.proofs.Common.{◌≡◌, ◌≤◌, length, take, drop, sym, ap, ◌∙◌, arith}
use Rattle.std.proofs.lemmas.List.{length-take-le, take-append-le, take-append-drop}
use Rattle.commands.proofs.writing.front.Goals as goal

pub returns-clause-front : goal.returns-clause-front
returns-clause-front c = λ n le.
    let long : 4096 ≤ length c.args.text.now = omega arith in
    let size : length (take 4096 c.args.text.now) ≡ 4096 = length-take-le 4096 c.args.text.now long in
    (omega arith, sym (take-append-le n (take 4096 c.args.text.now) (drop 4096 c.args.text.now) le) ∙ ap (take n) (take-append-drop 4096 c.args.text.now))
