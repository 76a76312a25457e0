use Rattle.std.proofs.Common.{◌≡◌, ℕ, refl, subst, sym}
use Rattle.std.specs.Prelude.{IfSome}
use Rattle.weed_base.specs.Files.{content}
use Rattle.needle.specs.Layout.{padded}
use Rattle.needle_index.specs.Text.{entry_at}
use Rattle.volume_items.specs.Garbage.{Fit}
use Rattle.volume_items.specs.Walk.{Meets}
use Rattle.volume_items.proofs.Fitting.{fits_on}
use Rattle.volume_items.proofs.Walks.{told_on}
use Rattle.volume_items.proofs.walking.step.Goals as goal

pub returns-in_ok-enter-in-Some-clause-goes : goal.returns-in_ok-enter-in-Some-clause-goes
returns-in_ok-enter-in-Some-clause-goes g c =
    let told = g.D.Disk.files c.args.disk.now in
    told_on told c.args.name.now c.args.version c.args.walked.now c.enter.new.self c.in-Some.seen
    (subst (λ seen. IfSome told (λ files. Meets c.args.version (content files c.args.name.now) c.args.walked.now.end seen)) c.in-Some.is c.in_ok-seen.ensures.meets)
    c.in_ok-enter-in-Some.ensures.index c.in_ok-enter-in-Some.ensures.end c.in_ok-enter-in-Some.ensures.greatest

pub returns-in_ok-enter-in-Some-clause-fit : goal.returns-in_ok-enter-in-Some-clause-fit
returns-in_ok-enter-in-Some-clause-fit g c = λ fit.
    let old = c.args.walked.now in
    let seen = c.in-Some.seen in
    let new = c.enter.new.self in
    subst (λ (n : ℕ). Fit c.args.version new.index.spots n) (sym c.in_ok-enter-in-Some.ensures.end)
    (fits_on c.args.version old.index.spots new.index.spots old.end old.end seen.taken (entry_at old.end seen.key seen.size)
    (record {
      key = seen.key;
      size = seen.size;
      entry_is = refl;
      taken_is = subst (λ seen. IfSome seen (λ seen. seen.taken ≡ padded c.args.version seen.size)) c.in-Some.is c.in_ok-seen.ensures.taken;
    })
    c.in_ok-enter-in-Some.ensures.index fit)
