use Rattle.std.proofs.Common.{◌≡◌, ℕ, List, Option, Ok, Err, sym, subst, ap, ◌∙◌}
use Rattle.std.specs.Prelude.{IfSome}
use Rattle.std.proofs.lemmas.Result.{err_from_is_err_and}
use Rattle.proto_wire.specs.Frame.{length_text, length_at, frame_at, IsUnlessOutside, TakesFrame, TakesLength}
use Rattle.proto_wire.proofs.Frames.{frame_err, frame_none, frame_long, frame_payload, loses_more}
use Rattle.proto_wire.proofs.frame.read_frame.Goals as goal

pub returns-in_err-length-clause-exact : goal.returns-in_err-length-clause-exact
returns-in_err-length-clause-exact g c =
    let told : Option (List ℕ) = g.S.Source.left c.args.from.now in
    let p = err_from_is_err_and c.from_residual.result c.from_residual.ensures.1 in
    let is : c.from_residual.result ≡ Err c.in_err-length.field-0.0 = p.1 ∙ ap Err p.2 in
    subst (λ result. IfSome told (λ left. IsUnlessOutside result (frame_at c.args.limit left))) (sym is)
    (frame_err told c.args.limit c.in_err-length.field-0.0 c.in_err-length.ensures.exact)

pub returns-in_default-clause-exact : goal.returns-in_default-clause-exact
returns-in_default-clause-exact g c =
    let told : Option (List ℕ) = g.S.Source.left c.args.from.now in
    let exact = subst (λ seen. IfSome told (λ left. IsUnlessOutside {T = Option ℕ} (Ok seen) (length_at left))) c.in_default.is c.in_ok-length.ensures.exact in
    frame_none told c.args.limit exact

pub returns-then-limit-length-clause-exact : goal.returns-then-limit-length-clause-exact
returns-then-limit-length-clause-exact g c =
    let told : Option (List ℕ) = g.S.Source.left c.args.from.now in
    let exact = subst (λ seen. IfSome told (λ left. IsUnlessOutside {T = Option ℕ} (Ok seen) (length_at left))) c.in-Some.is c.in_ok-length.ensures.exact in
    frame_long told c.args.limit c.in-Some.length c.if-limit-length.true exact

pub returns-in_err-read_payload-clause-exact : goal.returns-in_err-read_payload-clause-exact
returns-in_err-read_payload-clause-exact g c =
    let told : Option (List ℕ) = g.S.Source.left c.args.from.now in
    let mid : Option (List ℕ) = g.S.Source.left c.read_length.new.from in
    let exact = subst (λ seen. IfSome told (λ left. IsUnlessOutside {T = Option ℕ} (Ok seen) (length_at left))) c.in-Some.is c.in_ok-length.ensures.exact in
    let taken = subst (λ seen. TakesLength told mid (Ok seen)) c.in-Some.is c.in_ok-length.ensures.taken in
    let p = err_from_is_err_and c.from_residual-in_err-read_payload.result c.from_residual-in_err-read_payload.ensures.1 in
    let is : c.from_residual-in_err-read_payload.result ≡ Err c.in_err-read_payload.field-0.0 = p.1 ∙ ap Err p.2 in
    subst (λ result. IfSome told (λ left. IsUnlessOutside result (frame_at c.args.limit left))) (sym is)
    (frame_payload told mid c.args.limit c.in-Some.length (Err c.in_err-read_payload.field-0.0) c.if-limit-length.false taken exact c.in_err-read_payload.ensures.exact)

pub returns-in_err-read_payload-clause-taken : goal.returns-in_err-read_payload-clause-taken
returns-in_err-read_payload-clause-taken g c =
    let told : Option (List ℕ) = g.S.Source.left c.args.from.now in
    let mid : Option (List ℕ) = g.S.Source.left c.read_length.new.from in
    let new : Option (List ℕ) = g.S.Source.left c.read_payload.new.from in
    let taken = subst (λ seen. TakesLength told mid (Ok seen)) c.in-Some.is c.in_ok-length.ensures.taken in
    let p = err_from_is_err_and c.from_residual-in_err-read_payload.result c.from_residual-in_err-read_payload.ensures.1 in
    let is : c.from_residual-in_err-read_payload.result ≡ Err c.in_err-read_payload.field-0.0 = p.1 ∙ ap Err p.2 in
    subst (TakesFrame c.args.limit told new) (sym is) (loses_more told mid new (length_text c.in-Some.length) taken c.in_err-read_payload.ensures.taken)

pub returns-clause-exact : goal.returns-clause-exact
returns-clause-exact g c =
    let told : Option (List ℕ) = g.S.Source.left c.args.from.now in
    let mid : Option (List ℕ) = g.S.Source.left c.read_length.new.from in
    let exact = subst (λ seen. IfSome told (λ left. IsUnlessOutside {T = Option ℕ} (Ok seen) (length_at left))) c.in-Some.is c.in_ok-length.ensures.exact in
    let taken = subst (λ seen. TakesLength told mid (Ok seen)) c.in-Some.is c.in_ok-length.ensures.taken in
    frame_payload told mid c.args.limit c.in-Some.length (Ok c.in_ok-read_payload.field-0) c.if-limit-length.false taken exact c.in_ok-read_payload.ensures.exact
