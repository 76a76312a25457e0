use Rattle.std.proofs.Common.{◌≡◌, Bool, true, false, ℕ, List, Result, Ok, Err, IsUtf8, MatchResult, sym, ◌∙◌, refl}
use Rattle.std.specs.Result.{is_ok}
use Rattle.std.specs.Str.{is_utf8}
use Rattle.std.proofs.lemmas.Str.{is_utf8-from_IsUtf8, IsUtf8-from_is_utf8}
use Rattle.http_form.proofs.field.is_text.Goals as goal

not_utf8 : (bs : List ℕ) → ¬ (IsUtf8 bs) → false ≡ is_utf8 bs
not_utf8 bs never =
    let by_test : (t : Bool) → is_utf8 bs ≡ t → false ≡ t = elim [ true ↦ λ valid. absurd (never (IsUtf8-from_is_utf8 bs valid)) | false ↦ λ _. refl ] in
    by_test (is_utf8 bs) refl

is_ok-utf8 : {T E : Type 0} (r : Result T E) (P : T → Type 0) (Q : E → Type 0) (bs : List ℕ) → MatchResult r (λ x. P x × IsUtf8 bs) (λ e. ¬ (IsUtf8 bs) × Q e) → is_ok r ≡ is_utf8 bs
is_ok-utf8 (Ok x) P Q bs h = sym (is_utf8-from_IsUtf8 bs h.1)
is_ok-utf8 (Err e) P Q bs h = not_utf8 bs h.0

pub returns : goal.returns
returns c = c.is_ok.ensures.value ∙ is_ok-utf8 c.from_utf8.result _ _ c.args.bytes.now c.from_utf8.ensures.cases
