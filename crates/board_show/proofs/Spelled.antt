-- The text of a call or a statement whose kind is known.
use Rattle.std.proofs.Common.{◌≡◌, ℕ, List, ◌∷◌, ◌++◌, Result, sym, ap, ◌∙◌}
use Rattle.std.specs.Prelude.{OnOk}
use Rattle.std.proofs.lemmas.Result.{on_ok_weaker}
use Rattle.rt_plain.specs.declared.stmt.Call.{Call}
use Rattle.rt_plain.specs.declared.stmt.Stmt.{Stmt}
use Rattle.rt_plain.specs.text.Words.{words}
use Rattle.rt_plain.specs.text.StatementTable.{statement_words}
use Rattle.board_show.specs.Writing.{call_words, call_text, statement_text}

-- equal words
pub words-same : {x y : List ℕ} {xs ys : List (List ℕ)} → x ≡ y → xs ≡ ys → x ∷ xs ≡ y ∷ ys
words-same {x} {y} {xs} {ys} e f = ap (λ (w : List ℕ). w ∷ xs) e ∙ ap (λ (ws : List (List ℕ)). y ∷ ws) f

-- a call is put by its words
pub call_put : {E : Type 0} (c known : Call) (r : Result (Unit {0}) E) (old new : List ℕ) (ws : List (List ℕ)) → c ≡ known → ws ≡ call_words known → OnOk r (new ≡ old ++ words ws) → OnOk r (new ≡ old ++ call_text c)
unfolding call_text
call_put c known r old new ws is same = on_ok_weaker r (λ e. e ∙ ap (λ (vs : List (List ℕ)). old ++ words vs) same ∙ ap (λ (x : Call). old ++ words (call_words x)) (sym is))

-- a statement is put by its words
pub statement_put : {E : Type 0} (s known : Stmt) (r : Result (Unit {0}) E) (old new : List ℕ) (ws : List (List ℕ)) → s ≡ known → ws ≡ statement_words known → OnOk r (new ≡ old ++ words ws) → OnOk r (new ≡ old ++ statement_text s)
unfolding statement_text
statement_put s known r old new ws is same = on_ok_weaker r (λ e. e ∙ ap (λ (vs : List (List ℕ)). old ++ words vs) same ∙ ap (λ (x : Stmt). old ++ words (statement_words x)) (sym is))

-- a statement that is a call has its text
pub call_statement : (s : Stmt) (c : Call) → s ≡ Stmt.Do c → statement_text s ≡ call_text c
unfolding statement_text call_text
call_statement s c is = ap (λ (x : Stmt). words (statement_words x)) is
