-- A try and a release keep the rule.
use Rattle.std.proofs.Common.{◌≡◌, ◌≢◌, ℕ, zero, suc, ◌+◌, ◌<◌, eqb, true, false, List, [], ◌∷◌, ◌++◌, map, length, get_or, set, Option, Some, sym, refl, ap, subst, ◌∙◌, inl, inr, ⊎_elim, append_assoc, append-nil, arith}
use Rattle.std.proofs.lemmas.List.Elements.{All-append, All-cons}
use mathlib.Core.Option.{Option as Place, some, none, some-injective, some-ne-none}
use lib.ListN.{get_elem?}
use prog.Atomic.{either}
use Rattle.atomic_table.specs.Table.{State, step, stepped, Act, keeps, takes, gives, Valid, carried_after, Allows}
use Rattle.atomic_table.proofs.Lists.{at_set, set_here, set_else, exchanged, at_map}
use Rattle.rt_base.specs.declared.codes.Event.{Event}
use Rattle.rt_plain.specs.runs.Live.{owner}
use Rattle.rt_plain.specs.runs.Logs.{Continues}
use Rattle.cpus_lock.specs.declared.knows.Knows.{Knows}
use Rattle.cpus_lock.specs.declared.knows.Kept.{Kept}
use Rattle.cpus_lock.specs.declared.nested.Nested.{Ghosts}
use Rattle.cpus_lock.specs.Passes.{AreOwnersBelow, IsNestBelow, GrowsBy}
use Rattle.cpus_lock.specs.Rule.{KeptFit, GoesOnBelow, Fits, who, Has, Roster, IsHolder, IsHome, Locked, tried_seat, holder, leaver, IsFoundBy, Took, Left}

abbrev pub Views : Type 0
Views = List Knows

pub within : (views : Views) (id : ℕ) (v : Knows) → get_elem? views id ≡ some v → id < length views
within [] id v at = absurd (some-ne-none v (sym at))
within (x ∷ xs) zero v at = omega arith
within (x ∷ xs) (suc i) v at = omega (arith, within xs i v at)

-- whose seats they are stays where one view changes and neither who it is of
who_kept : (views : Views) (id : ℕ) (v w : Knows) → get_elem? views id ≡ some v → who w ≡ who v → map who (set views id w) ≡ map who views
who_kept [] id v w at same = refl
who_kept (x ∷ xs) zero v w at same = λ i. (same ∙ ap who (sym (some-injective x v at))) i ∷ map who xs
who_kept (x ∷ xs) (suc k) v w at same = λ i. who x ∷ who_kept xs k v w at same i

roster_kept : (views : Views) (id : ℕ) (v w : Knows) → get_elem? views id ≡ some v → who w ≡ who v → Roster (map who views) → Roster (map who (set views id w))
roster_kept views id v w at same r = subst Roster (sym (who_kept views id v w at same)) r

-- different seats that are unspent have different cores
pub apart_of : (views : Views) → Roster (map who views) → (i j : ℕ) (v w : Knows) → get_elem? views i ≡ some v → get_elem? views j ≡ some w → v.live ≡ true → w.live ≡ true → v.core ≡ w.core → i ≡ j
apart_of views r i j v w ai aj lv lw e =
    r.apart i j (who v) (who w) v.core (at_map who views i v ai) (at_map who views j w aj) lv lw (inl refl) (inl (sym e))

-- a core that a seat keeps is no other seat's
kept_apart : (views : Views) → Roster (map who views) → (i j : ℕ) (v w : Knows) (c : ℕ) → get_elem? views i ≡ some v → get_elem? views j ≡ some w → v.live ≡ true → w.live ≡ true
    → Has (map (λ (k : Kept). k.core) w.kept) c → i ≢ j → c ≢ v.core
kept_apart views r i j v w c ai aj lv lw has ne e =
    ne (r.apart i j (who v) (who w) c (at_map who views i v ai) (at_map who views j w aj) lv lw (inl (sym e)) (inr has))

-- the events that a hold added
pub record Added (by : ℕ) (older log : List Event) : Type 0 where
  pub events : List Event
  pub log_is : log ≡ older ++ events
  pub of_core : (k : ℕ) (d : Event) → k < length events → owner (get_or events k d) ≡ by

added : (by : ℕ) (entered now log : List Event) → entered ≡ now → GrowsBy by entered log → Added by now log
added by entered now log is grows =
    ⊎_elim
    (λ same. record { events = []; log_is = same ∙ (is ∙ sym (append-nil now)); of_core = λ k d less. absurd (omega (arith, less)) })
    (λ more. record {
      events = more.0 ∷ [];
      log_is = more.1 ∙ ap (λ l. l ++ more.0 ∷ []) is;
      of_core = All-cons (λ e. owner e ≡ by) more.0 [] more.2 (λ k d less. absurd (omega (arith, less)));
    })
    grows

-- what is added by another core continues too
continues_more : (core by : ℕ) (older now log : List Event) → core ≢ by → Continues core older now → Added by now log → Continues core older log
continues_more core by older now log apart c e = record {
  later = c.later ++ e.events;
  log_is = e.log_is ∙ (ap (λ l. l ++ e.events) c.log_is ∙ append_assoc older c.later e.events);
  of_others = All-append (λ x. owner x ≢ core) c.later e.events c.of_others (λ k d less same. apart (sym same ∙ e.of_core k d less));
}

kept_more : (cores by : ℕ) (root : List ℕ) (now log : List Event) (ks : List Kept) → ((c : ℕ) → Has (map (λ (k : Kept). k.core) ks) c → c ≢ by) → KeptFit cores root now ks → Added by now log → KeptFit cores root log ks
kept_more cores by root now log [] apart fit e = tt
kept_more cores by root now log (k ∷ ks) apart fit e = (
  fit.0,
  fit.1,
  continues_more k.core by k.log now log (apart k.core (inl refl)) fit.2 e,
  kept_more cores by root now log ks (λ c has. apart c (inr has)) fit.3 e,
)

-- a log continues itself
pub continues_itself : (core : ℕ) (log : List Event) → Continues core log log
continues_itself core log = record { later = []; log_is = sym (append-nil log); of_others = λ k d less. absurd (omega (arith, less)) }

pub goes_on_itself : (given : ℕ) (log : List Event) → GoesOnBelow given log log
goes_on_itself given log = record { later = []; log_is = sym (append-nil log); of_given = λ k d less. absurd (omega (arith, less)) }

module _ {T : Type 0} (meanings : Ghosts T) (cores : ℕ) (first : T) where
  abbrev St : Type 0
  St = State (Option T) Knows

  abbrev Rule : St → Type 0
  Rule = Locked meanings cores first

  same_view : (s : St) (id i : ℕ) (v u : Knows) → i ≡ id → get_elem? s.views id ≡ some v → get_elem? s.views i ≡ some u → u ≡ v
  same_view s id i v u e at ai =
      let P : ℕ → Type 0 = λ k. get_elem? s.views k ≡ some u in some-injective u v (sym (subst P e ai) ∙ at)

  -- the seat that doesn't hold isn't the one that does
  pub not_holder : (s : St) (id : ℕ) (v : Knows) (word : ℕ) → get_elem? s.views id ≡ some v → v.holding ≡ false → (t : IsHolder word s.views) → t.place ≢ id
  not_holder s id v word at idle t e = cc (ap (λ (k : Knows). k.holding) (same_view s id t.place v t.view e at t.at), t.holding, idle)

  other_holds : (s : St) (h : Rule s) (id : ℕ) (v : Knows) → get_elem? s.views id ≡ some v → v.live ≡ true → v.holding ≡ false
      → 0 < h.word → h.word ≢ v.core + 1
  other_holds s h id v at live idle busy is =
      let t = (h.taken busy).1 in
      not_holder s id v h.word at idle t (apart_of s.views h.roster t.place id t.view v t.at at t.live live (omega (arith, t.word_is, is)))

  -- nothing but a seat's count of tries changes
  tries : (s : St) (h : Rule s) (id : ℕ) (v : Knows) (found n : ℕ) → get_elem? s.views id ≡ some v → v.live ≡ true → v.holding ≡ false → 0 < h.word → n ≡ h.word
      → Rule (stepped s 0 n id [] (tried_seat v found) keeps)
  tries s h id v found n at live idle busy is =
      let w : Knows = tried_seat v found in
      let both = h.taken busy in
      let t = both.1 in
      record {
        word = n;
        now = h.now;
        root = h.root;
        words = ap (λ (ws : List ℕ). set ws 0 n) h.words;
        few = h.few;
        owners = h.owners;
        free = λ zero_is. absurd (omega (arith, zero_is, is, busy));
        taken = λ _. (
          both.0,
          record {
            place = t.place;
            view = t.view;
            at = set_else s.views id t.place w (not_holder s id v h.word at idle t) ∙ t.at;
            live = t.live;
            holding = t.holding;
            word_is = is ∙ t.word_is;
          },
        );
        seats = λ j x aj lx.
            elim (at_set s.views id j w x aj) [
              | inl p ↦
                  (let P : Knows → Type 0 = λ k. Fits cores n h.root h.now k in
                  let f = h.seats id v at live in
                  subst P p.1 record { cores_is = f.cores_is; core = f.core; root_is = f.root_is; log = f.log; holds = λ y. absurd (cc (y, idle)); kept = f.kept; given = f.given })
              | inr p ↦
                  (let P : ℕ → Type 0 = λ k. Fits cores k h.root h.now x in subst P (sym is) (h.seats j x p.1 lx))
            ];
        roster = roster_kept s.views id v w at refl h.roster;
        untried = λ all. absurd (let none_is = (all id w (set_here s.views id w (within s.views id v at)) live).0 in omega (arith, none_is));
      }

  -- a seat takes the value
  seizes : (s : St) (h : Rule s) (id : ℕ) (v : Knows) (n : ℕ) (home : IsHome meanings cores h.root h.now s.homes) → get_elem? s.views id ≡ some v → v.live ≡ true → h.word ≡ 0 → n ≡ v.core + 1
      → Rule (stepped s 0 n id [] (holder v (meanings.log home.value)) (takes 0 (Some home.value)))
  seizes s h id v n home at live zero_is is =
      let w : Knows = holder v (meanings.log home.value) in
      let here : get_elem? (set s.views id w) id ≡ some w = set_here s.views id w (within s.views id v at) in
      record {
        word = n;
        now = h.now;
        root = h.root;
        words = ap (λ (ws : List ℕ). set ws 0 n) h.words;
        few = h.few;
        owners = h.owners;
        free = λ e. absurd (omega (arith, e, is));
        taken = λ _. (ap (λ (hs : List (Place (Option T))). set hs 0 none) home.home, record { place = id; view = w; at = here; live = live; holding = refl; word_is = is });
        seats = λ j x aj lx.
            elim (at_set s.views id j w x aj) [
              | inl p ↦
                  (let P : Knows → Type 0 = λ k. Fits cores n h.root h.now k in
                  let f = h.seats id v at live in
                  subst P p.1 record { cores_is = f.cores_is; core = f.core; root_is = f.root_is; log = f.log; holds = λ _. (is, home.log_is, omega arith); kept = f.kept; given = f.given })
              | inr p ↦
                  (let f = h.seats j x p.1 lx in
                  record { cores_is = f.cores_is; core = f.core; root_is = f.root_is; log = f.log; holds = λ y. absurd (let t = f.holds y in omega (arith, t.0, zero_is)); kept = f.kept; given = f.given })
            ];
        roster = roster_kept s.views id v w at refl h.roster;
        untried = λ all. absurd (let none_is = (all id w here live).0 in omega (arith, none_is));
      }

  -- what a seat finds at home
  finds : (s : St) (h : Rule s) (id : ℕ) (v : Knows) → get_elem? s.views id ≡ some v → v.live ≡ true → (home : IsHome meanings cores h.root h.now s.homes) → IsFoundBy meanings v home.value
  finds s h id v at live home =
      let f = h.seats id v at live in
      let P : List Event → Type 0 = λ l. Continues v.core v.log l in
      let Q : List Event → Type 0 = λ l. AreOwnersBelow v.cores l in
      let R : ℕ → Type 0 = λ n. AreOwnersBelow n h.now in
      let N : ℕ → Type 0 = λ n. IsNestBelow n (meanings.nest home.value) in
      record {
        root_is = home.root_is ∙ sym f.root_is;
        log = subst P (sym home.log_is) f.log;
        owners = subst Q (sym home.log_is) (subst R (sym f.cores_is) h.owners);
        nest = subst N (sym f.cores_is) home.nest;
      }

  -- the step of a try
  pub takes_word : (slots id core : ℕ) (v : Knows) → v.live ≡ true → v.holding ≡ false → v.core ≡ core
      → Allows Rule slots id (v, []) 0 (λ n. either (eqb n 0) (core + 1) n) (Took meanings (step 1 0 0 (core + 1) none) (v, []))
  takes_word slots id core v live idle core_is s h wide at small =
      let found : ℕ = get_or s.words 0 0 in
      let found_is : found ≡ h.word = ap (λ (ws : List ℕ). get_or ws 0 0) h.words in
      let f = h.seats id v at live in
      exchanged found 0 (core + 1)
      (λ n. (w : Knows) × (a : Act (Option T)) × Valid s.homes [] a × Rule (stepped s 0 n id [] w a) × Took meanings (step 1 0 0 (core + 1) none) (v, []) found (w, carried_after [] a))
      (λ hit. let home = h.free (sym found_is ∙ hit) in (
        holder v (meanings.log home.value),
        takes 0 (Some home.value),
        ap (λ (hs : List (Place (Option T))). get_elem? hs 0) home.home,
        seizes s h id v (core + 1) home at live (sym found_is ∙ hit) (ap (λ k. k + 1) (sym core_is)),
        (
          λ _. (home.value, refl, refl, finds s h id v at live home),
          λ some_found. absurd (omega (arith, hit, some_found)),
        ),
      ))
      (λ miss. let busy : 0 < h.word = omega (arith, miss, found_is) in (
        tried_seat v found,
        keeps,
        tt,
        tries s h id v found found at live idle busy found_is,
        (
          λ none_found. absurd (miss none_found),
          λ _.
              let u = (h.taken busy).1 in
              (refl, refl, (λ e. other_holds s h id v at live idle busy (sym found_is ∙ e)), omega (arith, found_is, u.word_is, (h.seats u.place u.view u.at u.live).core, f.cores_is), omega (arith, h.few, f.cores_is)),
        ),
      ))

  -- a seat gives a value back
  releases : (s : St) (h : Rule s) (id : ℕ) (v : Knows) (value : T)
      → get_elem? s.views id ≡ some v → v.live ≡ true → v.holding ≡ true → v.kept ≡ [] → meanings.root value ≡ v.root → GrowsBy v.core v.entered (meanings.log value) → IsNestBelow v.cores (meanings.nest value)
      → Rule (stepped s 0 0 id ((0, Some value) ∷ []) (leaver v (meanings.log value)) gives)
  releases s h id v value at live held alone root_is grows nest =
      let log = meanings.log value in
      let w : Knows = leaver v log in
      let f = h.seats id v at live in
      let mine = f.holds held in
      let more = added v.core v.entered h.now log mine.1 grows in
      let N : ℕ → Type 0 = λ n. IsNestBelow n (meanings.nest value) in
      let Own : List Event → Type 0 = λ l. AreOwnersBelow cores l in
      record {
        word = 0;
        now = log;
        root = h.root;
        words = ap (λ (ws : List ℕ). set ws 0 0) h.words;
        few = h.few;
        owners = subst Own (sym more.log_is) (All-append (λ e. owner e < cores) h.now more.events h.owners (λ k d less. omega (arith, more.of_core k d less, f.core)));
        free = λ _. record {
          value = value;
          home = ap (λ (hs : List (Place (Option T))). set hs 0 (some (Some value))) (h.taken (omega (arith, mine.0))).0;
          log_is = refl;
          root_is = root_is ∙ f.root_is;
          nest = subst N f.cores_is nest;
        };
        taken = λ e. absurd (omega (arith, e));
        seats = λ j x aj lx.
            elim (at_set s.views id j w x aj) [
              | inl p ↦
                  (let P : Knows → Type 0 = λ k. Fits cores 0 h.root log k in
                  let Q : List Kept → Type 0 = λ ks. KeptFit cores h.root log ks in
                  subst P p.1 record {
                    cores_is = f.cores_is;
                    core = f.core;
                    root_is = f.root_is;
                    log = continues_itself v.core log;
                    holds = λ y. cc;
                    kept = subst Q (sym alone) tt;
                    given = λ _. goes_on_itself v.given log;
                  })
              | inr p ↦
                  (let y = h.seats j x p.1 lx in
                  let other : id ≢ j = λ e. p.0 (sym e) in
                  let apart : x.core ≢ v.core = λ same. p.0 (apart_of s.views h.roster j id x v p.1 at lx live same) in
                  record {
                    cores_is = y.cores_is;
                    core = y.core;
                    root_is = y.root_is;
                    log = continues_more x.core v.core x.log h.now log apart y.log more;
                    holds = λ z. absurd (apart (let t = y.holds z in omega (arith, t.0, mine.0)));
                    kept = kept_more cores v.core h.root h.now log x.kept (λ c has. kept_apart s.views h.roster id j v x c at p.1 live lx has other) y.kept more;
                    given = λ some_given.
                        let g = y.given some_given in
                        let less = h.roster.below j id (who x) (who v) v.core (at_map who s.views j x p.1) (at_map who s.views id v at) lx live some_given (inl refl) in
                        record {
                          later = g.later ++ more.events;
                          log_is = more.log_is ∙ (ap (λ l. l ++ more.events) g.log_is ∙ append_assoc x.log g.later more.events);
                          of_given = All-append (λ e. owner e < x.given) g.later more.events g.of_given (λ k d within_k. omega (arith, more.of_core k d within_k, less));
                        };
                  })
            ];
        roster = roster_kept s.views id v w at refl h.roster;
        untried = λ all. absurd (let none_is = (all id w (set_here s.views id w (within s.views id v at)) live).0 in omega (arith, none_is, mine.2));
      }

  pub leaves_word : (slots id : ℕ) (v : Knows) (value : T) → v.live ≡ true → v.holding ≡ true → v.kept ≡ [] → meanings.root value ≡ v.root → GrowsBy v.core v.entered (meanings.log value) → IsNestBelow v.cores (meanings.nest value)
      → Allows Rule slots id (v, (0, Some value) ∷ []) 0 (λ _. 0) (λ _. Left meanings (step slots 0 0 0 none) (v, (0, Some value) ∷ []) 0)
  leaves_word slots id v value live held alone root_is grows nest s h wide at small =
      (leaver v (meanings.log value), gives, tt, releases s h id v value at live held alone root_is grows nest, (value, refl, refl, refl))
