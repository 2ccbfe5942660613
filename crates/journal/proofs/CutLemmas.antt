-- The `cut` line, number by number.
use Rattle.std.proofs.Common.{◌≡◌, ℕ, ◌+◌, ◌-◌, List, [], ◌∷◌, ◌++◌, length, take, drop, map, Some, refl, sym, ap, ◌∙◌, decimal, codes, append_assoc}
use Rattle.std.specs.List.{flat_map}
use Rattle.std.proofs.lemmas.List.Concat.{flat_map-cons}
use Rattle.std.proofs.lemmas.List.{take_rest}
use Rattle.rt_plain.specs.declared.entry.Cut.{Cut}
use Rattle.rt_plain.specs.declared.entry.Entry.{Entry}
use Rattle.rt_plain.specs.declared.line.Line.{Line}
use Rattle.rt_plain.specs.text.Words.{words}
use Rattle.rt_plain.specs.text.Texts.{cut_text, body_text, entries_text}
use Rattle.rt_plain.proofs.text.SplitLemmas.{words-joined_words}
use Rattle.journal.specs.declared.header.Header.{Header}
use Rattle.journal.specs.Headers.{entries_of, lines_in}
use Rattle.journal.proofs.HeaderLemmas.{entries-before, entries-behind}

spaced : (ns : List ℕ) → flat_map (λ (v : List ℕ). 32 ∷ v) (map decimal ns) ≡ flat_map (λ (n : ℕ). 32 ∷ decimal n) ns
spaced [] = refl
spaced (n ∷ ns) = flat_map-cons (λ (v : List ℕ). 32 ∷ v) (decimal n) (map decimal ns) ∙ ap (λ (t : List ℕ). 32 ∷ decimal n ++ t) (spaced ns) ∙ sym (flat_map-cons (λ (n : ℕ). 32 ∷ decimal n) n ns)

-- a `cut` line behind other bytes
pub cut_line : (out : List ℕ) (cut : Cut) → out ++ codes "cut" ++ flat_map (λ n. 32 ∷ decimal n) cut.counts.items ++ codes "\n" ≡ out ++ cut_text cut
cut_line out cut =
    let numbers = flat_map (λ (n : ℕ). 32 ∷ decimal n) cut.counts.items in
    let line : words (codes "cut" ∷ map decimal cut.counts.items) ≡ codes "cut" ++ numbers = words-joined_words (codes "cut" ∷ map decimal cut.counts.items) ∙ ap (λ (t : List ℕ). codes "cut" ++ t) (spaced cut.counts.items) in
    append_assoc (out ++ codes "cut") numbers (codes "\n") ∙ append_assoc out (codes "cut") (numbers ++ codes "\n") ∙ ap (λ (t : List ℕ). out ++ t) (sym (append_assoc (codes "cut") numbers (codes "\n")) ∙ ap (λ (t : List ℕ). t ++ codes "\n") (sym line))

-- the text of entries with a cut among them, as it is written
pub split-text : (out : List ℕ) (headers : List Header) (lines : List Line) (cut : Cut) (before : ℕ) → before ≡ lines_in (take cut.at headers) →
    out ++ body_text (entries_of headers lines) (Some cut) ≡
    out ++ entries_text 1 (entries_of (take cut.at headers) (take before lines)) ++ cut_text cut
    ++ entries_text (cut.at + 1) (entries_of (take (length headers - cut.at) (drop cut.at headers)) (take (length lines - before) (drop before lines)))
split-text out headers lines cut before is =
    let first = entries_text 1 (take cut.at (entries_of headers lines)) in
    let rest = entries_text (cut.at + 1) (drop cut.at (entries_of headers lines)) in
    let front : take cut.at (entries_of headers lines) ≡ entries_of (take cut.at headers) (take before lines) = sym (entries-before cut.at headers lines) ∙ ap (λ (n : ℕ). entries_of (take cut.at headers) (take n lines)) (sym is) in
    let behind : drop cut.at (entries_of headers lines) ≡ entries_of (take (length headers - cut.at) (drop cut.at headers)) (take (length lines - before) (drop before lines)) =
    sym (entries-behind cut.at headers lines)
    ∙ ap (λ (n : ℕ). entries_of (drop cut.at headers) (drop n lines)) (sym is)
    ∙ ap (λ (hs : List Header). entries_of hs (drop before lines)) (sym (take_rest headers cut.at))
    ∙ ap (λ (ls : List Line). entries_of (take (length headers - cut.at) (drop cut.at headers)) ls) (sym (take_rest lines before)) in
    sym (append_assoc out (first ++ cut_text cut) rest) ∙ ap (λ (t : List ℕ). t ++ rest) (sym (append_assoc out first (cut_text cut)))
    ∙ ap (λ (es : List Entry). out ++ entries_text 1 es ++ cut_text cut ++ rest) front
    ∙ ap (λ (es : List Entry). out ++ entries_text 1 (entries_of (take cut.at headers) (take before lines)) ++ cut_text cut ++ entries_text (cut.at + 1) es) behind
