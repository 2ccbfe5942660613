-- What is written of a field.
use Rattle.std.specs.Prelude.{ℕ, List, ◌++◌, decimal, codes}
use Rattle.rt_plain.specs.text.Texts.{quoted_text}
use Rattle.journal.specs.declared.shown.Shown.{Shown}
use Rattle.journal.specs.declared.shown.Shown.TheVariants.{Word, Number, Negative, Change, Quoted, Received}

-- the bytes of a field
abbrev pub spelled : Shown → List ℕ
spelled (Word word) = word.now
spelled (Number n) = decimal n
spelled (Negative n) = codes "-" ++ decimal n
spelled (Change before after) = decimal before ++ codes ">" ++ decimal after
spelled (Quoted text) = quoted_text text.now
spelled (Received text lost) = quoted_text text.now ++ codes " " ++ decimal lost
