use Rattle.std.proofs.Common.{◌≡◌, ◌++◌, ℕ, [], ◌∷◌, Option, Some, arith, refl, ap, sym, ◌∙◌, subst, length, length-append}
use Rattle.std.proofs.lemmas.List.{append-nil, append_assoc}
use Rattle.susp_list.specs.Rows.{line}
use Rattle.kernel_tables.specs.Listed.{waits_in, taken, IsRelisted}
use Rattle.kernel_tables.specs.Tabled.{all_woken, woken_row}
use Rattle.kernel_tables.proofs.WokenLemmas.{IsWaking, waking-start, waking-few, waking-room, waking-within, waking-more, waking-less, waking-over, taken-there}
use Rattle.kernel_tables.proofs.waking.wake_more.Goals as goal

pub wake-requires : goal.wake-requires
wake-requires c =
    let k = c.loop-t in
    let within = waking-within c.args.code c.args.threads.now c.args.lists.now c.args.list c.args.no k.threads k.lists k.invariant.done c.requires.there k.invariant.waking k.lists in
    taken-there k.threads _ k.lists c.take_first.new.self c.args.list c.args.no c.in-Some.t (woken_row c.args.code) (λ row. refl) k.invariant.waking.tied within (sym c.take_first.ensures.first ∙ c.in-Some.is)
    (subst (λ (o : Option ℕ). IsRelisted k.lists c.take_first.new.self (Some (c.args.list, c.args.no)) (taken o)) c.in-Some.is c.take_first.ensures.state) refl

pub push_last-requires : goal.push_last-requires
push_last-requires c =
    let k = c.loop-t in
    let shorter = waking-less c.args.code c.args.threads.now c.args.lists.now c.args.list c.args.no k.threads k.lists k.invariant.done c.requires.there k.invariant.waking c.take_first.new.self c.in-Some.t (sym c.take_first.ensures.first ∙ c.in-Some.is)
    (subst (λ (o : Option ℕ). IsRelisted k.lists c.take_first.new.self (Some (c.args.list, c.args.no)) (taken o)) c.in-Some.is c.take_first.ensures.state) in
    let all = waking-room c.args.code c.args.threads.now c.args.lists.now c.args.list c.args.no k.threads k.lists k.invariant.done c.requires.tied c.requires.there k.invariant.waking in
    omega (arith, all, shorter, ap length k.invariant.is, length-append c.args.woken.now k.invariant.done, c.requires.room, c.len.ensures.len, c.len.ensures.few)

pub loop-t-init : goal.loop-t-init
loop-t-init c = record { done = []; is = sym (append-nil c.args.woken.now); waking = waking-start c.args.code c.args.threads.now c.args.lists.now c.args.list c.args.no [] c.requires.tied refl }

pub loop-t-smaller : goal.loop-t-smaller
loop-t-smaller c =
    let k = c.loop-t in
    waking-less c.args.code c.args.threads.now c.args.lists.now c.args.list c.args.no k.threads k.lists k.invariant.done c.requires.there k.invariant.waking c.take_first.new.self c.in-Some.t (sym c.take_first.ensures.first ∙ c.in-Some.is)
    (subst (λ (o : Option ℕ). IsRelisted k.lists c.take_first.new.self (Some (c.args.list, c.args.no)) (taken o)) c.in-Some.is c.take_first.ensures.state)

pub loop-t-preserved : goal.loop-t-preserved
loop-t-preserved c =
    let k = c.loop-t in record {
      done = k.invariant.done ++ c.in-Some.t ∷ [];
      is = c.push_last.ensures ∙ ap (λ ts. ts ++ c.in-Some.t ∷ []) k.invariant.is ∙ append_assoc c.args.woken.now k.invariant.done (c.in-Some.t ∷ []);
      waking = waking-more c.args.code c.args.threads.now c.args.lists.now c.args.list c.args.no k.threads k.lists k.invariant.done c.requires.there k.invariant.waking c.take_first.new.self c.in-Some.t c.wake.new.self (k.invariant.done ++ c.in-Some.t ∷ []) (sym c.take_first.ensures.first ∙ c.in-Some.is)
          (subst (λ (o : Option ℕ). IsRelisted k.lists c.take_first.new.self (Some (c.args.list, c.args.no)) (taken o)) c.in-Some.is c.take_first.ensures.state) c.wake.ensures refl;
    }

-- nobody waits any more where the loop ends
over : (c : goal.In_default) → IsWaking c.args.code c.args.threads.now c.args.lists.now c.args.list c.args.no c.loop-t.threads c.take_first.new.self c.loop-t.invariant.done × (line (waits_in c.take_first.new.self c.args.list c.args.no) ≡ [])
over c =
    let k = c.loop-t in
    waking-over c.args.code c.args.threads.now c.args.lists.now c.args.list c.args.no k.threads k.lists k.invariant.done c.requires.there k.invariant.waking c.take_first.new.self (sym c.take_first.ensures.first ∙ c.in_default.is)
    (subst (λ (o : Option ℕ). IsRelisted k.lists c.take_first.new.self (Some (c.args.list, c.args.no)) (taken o)) c.in_default.is c.take_first.ensures.state)

-- whom it woke is the whole list
all : (c : goal.In_default) → c.loop-t.invariant.done ≡ line (waits_in c.args.lists.now c.args.list c.args.no)
all c = let o = over c in sym (o.0.parts ∙ ap (λ ts. c.loop-t.invariant.done ++ ts) o.1 ∙ append-nil c.loop-t.invariant.done)

pub returns-clause-woken : goal.returns-clause-woken
returns-clause-woken c = c.loop-t.invariant.is ∙ ap (λ ts. c.args.woken.now ++ ts) (all c)

pub returns-clause-few : goal.returns-clause-few
returns-clause-few c =
    let few = waking-few c.args.code c.args.threads.now c.args.lists.now c.args.list c.args.no c.loop-t.threads c.loop-t.lists c.loop-t.invariant.done c.requires.tied c.requires.there c.loop-t.invariant.waking in
    omega (arith, few, ap length c.loop-t.invariant.is, length-append c.args.woken.now c.loop-t.invariant.done)

pub returns-clause-threads : goal.returns-clause-threads
returns-clause-threads c = c.loop-t.invariant.waking.rows ∙ ap (all_woken c.args.code c.args.threads.now) (all c)

pub returns-clause-shown : goal.returns-clause-shown
returns-clause-shown c = (over c).0.shown

pub returns-clause-empty : goal.returns-clause-empty
returns-clause-empty c = (over c).1

pub returns-clause-tied : goal.returns-clause-tied
returns-clause-tied c = (over c).0.tied

pub returns-clause-others : goal.returns-clause-others
returns-clause-others c = (over c).0.others
