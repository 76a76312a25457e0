use Rattle.std.proofs.Common.{refl, rules}
use Rattle.needle.specs.declared.version.Version.TheVariants.{V3}
use Rattle.volume.specs.Making.{created}
use Rattle.volume_items.proofs.Fitting.{fits_none}
use Rattle.volume_items.proofs.Told.{told_done}
use Rattle.volume.proofs.Created.{created_holds}
use Rattle.volume.proofs.held.Volume.create.Goals as goal

pub returns-clause-held : goal.returns-clause-held
returns-clause-held g c =
    told_done _ (created c.args.id c.write.result) _ _ c.in_ok-make_files.ensures.files
    (created_holds c.args.id c.args.placement c.args.ttl _ c.write.result (search rules) (λ i. search rules) c.write.ensures
    (record { id_is = refl; block = refl; mode = refl; end = refl; index_end = refl; greatest = refl; index = c.new.ensures }))

pub invariant_of-result : goal.invariant_of-result
invariant_of-result g c = record { fit = fits_none V3 c.new.result.spots c.new.ensures }
