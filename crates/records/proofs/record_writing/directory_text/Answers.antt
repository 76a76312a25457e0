use Rattle.std.proofs.Common.{◌≡◌, ◌≢◌, ◌-◌, length, take, sym, refl, ap, ◌∙◌, subst, arith}
use Rattle.weed_base.specs.Path.{text_of}
use Rattle.name_core.specs.RecordText.{directory_of}
use Rattle.records.proofs.PathTexts.{EndsIn, EndsIn-last, only_root_lacks, length-text, directory_at_front, directory_before_slash}
use Rattle.records.proofs.record_writing.directory_text.Goals as goal

-- The root is its own directory.
pub returns-in_default-clause-text : goal.returns-in_default-clause-text
returns-in_default-clause-text c =
    c.text-text.ensures.text
    ∙ subst (λ p. text_of p ≡ text_of (directory_of p)) (sym (only_root_lacks _ c.in_default.ensures.last)) refl

pub overflow_sub-slash : goal.overflow_sub-slash
overflow_sub-slash c =
    let ends : EndsIn c.args.path.now c.in-Some.name.now = EndsIn-last _ _ c.in-Some.ensures.last in
    let long = length-text _ _ ends in
    let text = ap length c.text-text.ensures.text in
    omega arith

pub overflow_sub-slash-2 : goal.overflow_sub-slash-2
overflow_sub-slash-2 c =
    let ends : EndsIn c.args.path.now c.in-Some.name.now = EndsIn-last _ _ c.in-Some.ensures.last in
    let long = length-text _ _ ends in
    let text = ap length c.text-text.ensures.text in
    omega arith

pub returns-then-slash-eq0-clause-text : goal.returns-then-slash-eq0-clause-text
returns-then-slash-eq0-clause-text c =
    let text = ap length c.text-text.ensures.text in
    directory_at_front _ c.in-Some.name.now (EndsIn-last _ _ c.in-Some.ensures.last) (omega arith)

pub returns-else-slash-eq0-clause-text : goal.returns-else-slash-eq0-clause-text
returns-else-slash-eq0-clause-text c =
    let text = ap length c.text-text.ensures.text in
    let not_at_front : length (text_of c.args.path.now) - length c.in-Some.name.now - 1 ≢ 0 = omega arith in
    subst (λ t. take (length t - length c.in-Some.name.now - 1) t ≡ text_of (directory_of c.args.path.now)) (sym c.text-text.ensures.text)
    (directory_before_slash _ _ (EndsIn-last _ _ c.in-Some.ensures.last) not_at_front)
