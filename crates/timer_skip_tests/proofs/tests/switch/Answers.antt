use Rattle.std.proofs.Common.{rules, ℕ, ◌≡◌, ◌+◌, ◌<◌, sym, ap, subst, arith}
use Rattle.std.specs.List.{All}
use Rattle.std.proofs.lemmas.List.Elements.{All-filter, All-weaker}
use Rattle.timer_skip.specs.Armed.{Armed, ArmedRow, without}
use Rattle.timer_skip_tests.proofs.tests.switch.Goals as goal

-- the start numbers of the rows that a stop leaves
stopped : (timer : ℕ) (a b : Armed) → b ≡ record a { rows = without timer a.rows } → (at : ℕ) → All (λ (row : ArmedRow). row.number < at) a.rows → All (λ (row : ArmedRow). row.number < at) b.rows
stopped timer a b e at h =
    subst (λ (x : Armed). All (λ (row : ArmedRow). row.number < at) x.rows) (sym e) (All-filter _ (λ (row : ArmedRow). row.number < at) a.rows h)

pub arm-requires : goal.arm-requires
arm-requires g c =
    (search rules, (omega (arith, ap (λ (a : Armed). a.count) c.stop.ensures.rows), (c.requires.some, (c.requires.near, stopped c.args.no c.args.timers.now c.stop.new.self c.stop.ensures.rows c.args.moment c.requires.latest))))

pub returns-then-stop-clause-latest : goal.returns-then-stop-clause-latest
returns-then-stop-clause-latest g c =
    All-weaker (λ (row : ArmedRow). row.number < c.args.moment) (λ (row : ArmedRow). row.number < c.args.moment + 1) (λ row less. omega arith) c.stop.new.self.rows
    (stopped c.args.no c.args.timers.now c.stop.new.self c.stop.ensures.rows c.args.moment c.requires.latest)
