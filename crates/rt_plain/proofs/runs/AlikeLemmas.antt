-- Journals of a run with sleeps and of the same run by single ticks, which tell the same.
use Rattle.std.proofs.Common.{◌≡◌, ◌+◌, ◌∷◌, [], ◌++◌, ℕ, List, Option, None, refl, sym, ap, ◌∙◌, arith, append_assoc, append-nil, map, reverse, add-zero, flat_map}
use Rattle.std.specs.List.{filter_map}
use Rattle.std.proofs.lemmas.List.Elements.{filter_map-append}
use Rattle.std.proofs.lemmas.List.Concat.{flat_map-append}
use Rattle.rt_base.specs.declared.codes.Event.{Event}
use Rattle.rt_base.specs.declared.codes.Sleep.{Sleep}
use Rattle.rt_plain.specs.declared.entry.Entry.{Entry}
use Rattle.rt_plain.specs.declared.line.Line.{Line}
use Rattle.rt_plain.specs.kernel.State.{Device}
use Rattle.rt_plain.specs.text.Texts.{printed_by, console_of}
use Rattle.rt_plain.specs.runs.Tickless.{ticks_of, Firing, firing, firings_from, firings_of, Deed, deed, deeds_from, deeds_of}
use Rattle.rt_plain.proofs.runs.DeedLemmas.{TellsNoDeed}

-- how many ticks entries take
abbrev pub span : List Entry → ℕ
span [] = 0
span (e ∷ es) = ticks_of e.event e.lines + span es

span-last : (journal : List Entry) (e : Entry) → span (journal ++ e ∷ []) ≡ span journal + ticks_of e.event e.lines
span-last [] e = omega arith
span-last (f ∷ journal) e = omega (arith, span-last journal e)

-- what an entry more adds
console-last : (journal : List Entry) (e : Entry) → console_of (journal ++ e ∷ []) ≡ console_of journal ++ flat_map printed_by e.lines
console-last journal e = flat_map-append (λ (f : Entry). flat_map printed_by f.lines) journal (e ∷ []) ∙ ap (λ bytes. console_of journal ++ bytes) (append-nil (flat_map printed_by e.lines))

firings-last : (moment end : ℕ) (journal : List Entry) (e : Entry) → moment + span journal + ticks_of e.event e.lines ≡ end → firings_from moment (journal ++ e ∷ []) ≡ firings_from moment journal ++ filter_map (firing end) e.lines
firings-last moment end [] e is = append-nil (filter_map (firing (moment + ticks_of e.event e.lines)) e.lines) ∙ ap (λ (m : ℕ). filter_map (firing m) e.lines) same where
  same : moment + ticks_of e.event e.lines ≡ end
  same = omega (arith, is)
firings-last moment end (f ∷ journal) e is =
    let next : ℕ = moment + ticks_of f.event f.lines in
    let shown_by : List Firing = filter_map (firing next) f.lines in
    ap (λ (fs : List Firing). shown_by ++ fs) (firings-last next end journal e (omega (arith, is))) ∙ sym (append_assoc shown_by (firings_from next journal) (filter_map (firing end) e.lines))

deeds-last : (moment end : ℕ) (journal : List Entry) (e : Entry) → moment + span journal ≡ end → deeds_from moment (journal ++ e ∷ []) ≡ deeds_from moment journal ++ filter_map (deed end e.event) e.lines
deeds-last moment end [] e is = append-nil (filter_map (deed moment e.event) e.lines) ∙ ap (λ (m : ℕ). filter_map (deed m e.event) e.lines) same where
  same : moment ≡ end
  same = omega (arith, is)
deeds-last moment end (f ∷ journal) e is =
    let next : ℕ = moment + ticks_of f.event f.lines in
    let shown_by : List Deed = filter_map (deed moment f.event) f.lines in
    ap (λ (ds : List Deed). shown_by ++ ds) (deeds-last next end journal e (omega (arith, is))) ∙ sym (append_assoc shown_by (deeds_from next journal) (filter_map (deed end e.event) e.lines))

-- two journals tell the same; the second one is so many ticks ahead
pub record AreAlike (lag : ℕ) (journal entries : List Entry) : Type 0 where
  pub console : console_of journal ≡ console_of entries
  pub firings : firings_of journal ≡ firings_of entries
  pub deeds : deeds_of journal ≡ deeds_of entries
  pub spans : span entries ≡ span journal + lag

-- an entry more on either side, after which none is ahead
alike-entries : (lag : ℕ) (journal entries : List Entry) (e f : Entry) → AreAlike lag journal entries → ticks_of e.event e.lines ≡ lag + ticks_of f.event f.lines → flat_map printed_by e.lines ≡ flat_map printed_by f.lines
    → ((m : ℕ) → filter_map (firing m) e.lines ≡ filter_map (firing m) f.lines) → filter_map (deed (span journal) e.event) e.lines ≡ filter_map (deed (span journal + lag) f.event) f.lines → AreAlike 0 (journal ++ e ∷ []) (entries ++ f ∷ [])
alike-entries lag journal entries e f alike same prints fires does = record {
  console = console-last journal e ∙ ap (λ bytes. bytes ++ flat_map printed_by e.lines) alike.console ∙ ap (λ bytes. console_of entries ++ bytes) prints ∙ sym (console-last entries f);
  firings = firings-last 0 end journal e (omega arith) ∙ ap (λ (fs : List Firing). fs ++ filter_map (firing end) e.lines) alike.firings ∙ ap (λ (fs : List Firing). firings_of entries ++ fs) (fires end) ∙ sym (firings-last 0 end entries f both);
  deeds = deeds-last 0 (span journal) journal e (omega arith) ∙ ap (λ (ds : List Deed). ds ++ filter_map (deed (span journal) e.event) e.lines) alike.deeds ∙ ap (λ (ds : List Deed). deeds_of entries ++ ds) does ∙ sym (deeds-last 0 (span journal + lag) entries f (omega (arith, alike.spans)));
  spans = omega (arith, span-last journal e, span-last entries f, alike.spans, same);
} where
  end : ℕ
  end = span journal + ticks_of e.event e.lines

  both : 0 + span entries + ticks_of f.event f.lines ≡ end
  both = omega (arith, alike.spans, same)

pub alike-both : (journal entries : List Entry) (e : Entry) → AreAlike 0 journal entries → AreAlike 0 (journal ++ e ∷ []) (entries ++ e ∷ [])
alike-both journal entries e alike = alike-entries 0 journal entries e e alike (omega arith) refl (λ m. refl) (ap (λ (m : ℕ). filter_map (deed m e.event) e.lines) (sym (add-zero (span journal))))

-- a tick that shows nothing
pub alike-tick : (lag tick : ℕ) (journal entries : List Entry) → AreAlike lag journal entries → AreAlike (lag + 1) journal (entries ++ record { event = Event.Tick; tick = tick; lines = [] } ∷ [])
alike-tick lag tick journal entries alike = record {
  console = alike.console ∙ sym (console-last entries e ∙ append-nil (console_of entries));
  firings = alike.firings ∙ sym (firings-last 0 (span entries + 1) entries e (omega arith) ∙ append-nil (firings_of entries));
  deeds = alike.deeds ∙ sym (deeds-last 0 (span entries) entries e (omega arith) ∙ append-nil (deeds_of entries));
  spans = omega (arith, span-last entries e, alike.spans);
} where
  e : Entry
  e = record { event = Event.Tick; tick = tick; lines = [] }

-- the lines of a sleep tell what those of its last tick tell
shown-named : {X : Type 0} (f : Line → Option X) (line : List ℕ → Line) → ((name : List ℕ) → f (line name) ≡ None) → (devices : List Device) → filter_map f (map (λ (d : Device). line d.name) devices) ≡ []
shown-named f line none [] = refl
shown-named f line none (d ∷ devices) = rw (none d.name) (shown-named f line none devices)

printed-named : (line : List ℕ → Line) → ((name : List ℕ) → printed_by (line name) ≡ []) → (devices : List Device) → flat_map printed_by (map (λ (d : Device). line d.name) devices) ≡ []
printed-named line none [] = refl
printed-named line none (d ∷ devices) = rw (none d.name) (printed-named line none devices)

-- the devices suspended and resumed
abbrev pub powered_lines : List Device → List Line
powered_lines devices = map (λ (d : Device). Line.Suspend d.name) devices ++ [] ++ map (λ (d : Device). Line.Resume d.name) (reverse devices)

shown-powered : {X : Type 0} (f : Line → Option X) → ((name : List ℕ) → f (Line.Suspend name) ≡ None) → ((name : List ℕ) → f (Line.Resume name) ≡ None) → (devices : List Device) (lines : List Line) → filter_map f (powered_lines devices ++ lines) ≡ filter_map f lines
shown-powered f suspends resumes devices lines =
    filter_map-append f (powered_lines devices) lines
    ∙ rw (
      filter_map-append f (map (λ (d : Device). Line.Suspend d.name) devices ++ []) (map (λ (d : Device). Line.Resume d.name) (reverse devices)),
      filter_map-append f (map (λ (d : Device). Line.Suspend d.name) devices) [],
      shown-named f (λ name. Line.Suspend name) suspends devices,
      shown-named f (λ name. Line.Resume name) resumes (reverse devices),
    ) refl

printed-powered : (devices : List Device) (lines : List Line) → flat_map printed_by (powered_lines devices ++ lines) ≡ flat_map printed_by lines
printed-powered devices lines =
    flat_map-append printed_by (powered_lines devices) lines
    ∙ rw (
      flat_map-append printed_by (map (λ (d : Device). Line.Suspend d.name) devices ++ []) (map (λ (d : Device). Line.Resume d.name) (reverse devices)),
      flat_map-append printed_by (map (λ (d : Device). Line.Suspend d.name) devices) [],
      printed-named (λ name. Line.Suspend name) (λ name. refl) devices,
      printed-named (λ name. Line.Resume name) (λ name. refl) (reverse devices),
    ) refl

-- a sleep of some ticks, and its last tick
pub alike-sleep : (lag core tick other shown_tick : ℕ) (mode : Sleep) (devices : List Device) (lines : List Line) (journal entries : List Entry) → TellsNoDeed lines → AreAlike lag journal entries
    → AreAlike 0 (journal ++ record { event = Event.Step core; tick = tick; lines = Line.Sleep mode (lag + 1) ∷ (powered_lines devices ++ Line.Tick shown_tick ∷ lines) } ∷ []) (entries ++ record { event = Event.Tick; tick = other; lines = lines } ∷ [])
alike-sleep lag core tick other shown_tick mode devices lines journal entries none alike = alike-entries lag journal entries e f alike refl (printed-powered devices (Line.Tick shown_tick ∷ lines)) (λ m. shown-powered (firing m) (λ name. refl) (λ name. refl) devices (Line.Tick shown_tick ∷ lines))
    (shown-powered (deed (span journal) (Event.Step core)) (λ name. refl) (λ name. refl) devices (Line.Tick shown_tick ∷ lines) ∙ none (span journal) (Event.Step core) ∙ sym (none (span journal + lag) Event.Tick)) where
      e : Entry
      e = record { event = Event.Step core; tick = tick; lines = Line.Sleep mode (lag + 1) ∷ (powered_lines devices ++ Line.Tick shown_tick ∷ lines) }

      f : Entry
      f = record { event = Event.Tick; tick = other; lines = lines }
