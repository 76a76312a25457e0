use Rattle.std.proofs.Common.{[], refl, subst, ◌∙◌}
use Rattle.std.specs.Prelude.{IfSome}
use Rattle.weed_base.proofs.ImageLemmas.{reads_both}
use Rattle.meta_log.specs.LogText.{NoneFrom}
use Rattle.meta_log.specs.Standing.{IsStanding}
use Rattle.meta_log.proofs.OpenCrashes.{sync_leaves, look_leaves, make_leaves, each_settled, still_settled, if_ok_always, stays_made_from, looked_made_from}
use Rattle.meta_log.proofs.Kept.{looked_at_keeps, fresh_or_empty}
use Rattle.meta_log.proofs.opening.open_first.Goals as goal

pub returns-in_err-make_first-in-Empty-clause-kept : goal.returns-in_err-make_first-in-Empty-clause-kept
returns-in_err-make_first-in-Empty-clause-kept g c =
    looked_at_keeps g.C.Check.allowed c.args.stem (g.met.C.Check.sound c.args.check.now [] c.requires.begins)
    (g.D.Disk.files c.args.disk.now) (g.D.Disk.files c.sync.new.self) (g.D.Disk.files c.find_standing.new.disk) (g.D.Disk.files c.make_first.new.disk) c.in_ok-find_standing.field-0
    c.find_standing.ensures.looks.files c.sync.ensures.files c.in-Empty.is c.in_ok-find_standing.ensures.found c.in_err-make_first-in-Empty.ensures.failed c.in_err-make_first-in-Empty.ensures.others

pub returns-in_ok-make_first-in-Empty-clause-kept : goal.returns-in_ok-make_first-in-Empty-clause-kept
returns-in_ok-make_first-in-Empty-clause-kept g c =
    looked_at_keeps g.C.Check.allowed c.args.stem (g.met.C.Check.sound c.args.check.now [] c.requires.begins)
    (g.D.Disk.files c.args.disk.now) (g.D.Disk.files c.sync.new.self) (g.D.Disk.files c.find_standing.new.disk) (g.D.Disk.files c.make_first.new.disk) c.in_ok-find_standing.field-0
    c.find_standing.ensures.looks.files c.sync.ensures.files c.in-Empty.is c.in_ok-find_standing.ensures.found (fresh_or_empty _ c.args.stem c.in_ok-make_first-in-Empty.ensures.made) c.in_ok-make_first-in-Empty.ensures.others

-- what is left of the files
pub returns-in_err-sync-clause-files : goal.returns-in_err-sync-clause-files
returns-in_err-sync-clause-files g c =
    stays_made_from c.args.stem (g.D.Disk.files c.args.disk.now) (g.D.Disk.files c.sync.new.self) c.sync.ensures.files

pub returns-in_err-find_standing-clause-files : goal.returns-in_err-find_standing-clause-files
returns-in_err-find_standing-clause-files g c =
    stays_made_from c.args.stem (g.D.Disk.files c.args.disk.now) (g.D.Disk.files c.find_standing.new.disk) (c.find_standing.ensures.looks.files ∙ c.sync.ensures.files)

pub returns-in-Gap-clause-files : goal.returns-in-Gap-clause-files
returns-in-Gap-clause-files g c =
    stays_made_from c.args.stem (g.D.Disk.files c.args.disk.now) (g.D.Disk.files c.find_standing.new.disk) (c.find_standing.ensures.looks.files ∙ c.sync.ensures.files)

pub returns-in-Second-clause-files : goal.returns-in-Second-clause-files
returns-in-Second-clause-files g c =
    stays_made_from c.args.stem (g.D.Disk.files c.args.disk.now) (g.D.Disk.files c.find_standing.new.disk) (c.find_standing.ensures.looks.files ∙ c.sync.ensures.files)

pub returns-in-First-clause-files : goal.returns-in-First-clause-files
returns-in-First-clause-files g c =
    stays_made_from c.args.stem (g.D.Disk.files c.args.disk.now) (g.D.Disk.files c.scan.new.disk) (c.scan.ensures.looks.files ∙ c.find_standing.ensures.looks.files ∙ c.sync.ensures.files)

pub returns-in_err-make_first-in-Empty-clause-files : goal.returns-in_err-make_first-in-Empty-clause-files
returns-in_err-make_first-in-Empty-clause-files g c =
    looked_made_from c.args.stem (g.D.Disk.files c.args.disk.now) (g.D.Disk.files c.sync.new.self) (g.D.Disk.files c.find_standing.new.disk) (g.D.Disk.files c.make_first.new.disk) c.in_ok-find_standing.field-0
    c.find_standing.ensures.looks.files c.sync.ensures.files c.in-Empty.is c.in_ok-find_standing.ensures.found c.in_err-make_first-in-Empty.ensures.failed c.in_err-make_first-in-Empty.ensures.others

pub returns-in_ok-make_first-in-Empty-clause-files : goal.returns-in_ok-make_first-in-Empty-clause-files
returns-in_ok-make_first-in-Empty-clause-files g c =
    looked_made_from c.args.stem (g.D.Disk.files c.args.disk.now) (g.D.Disk.files c.sync.new.self) (g.D.Disk.files c.find_standing.new.disk) (g.D.Disk.files c.make_first.new.disk) c.in_ok-find_standing.field-0
    c.find_standing.ensures.looks.files c.sync.ensures.files c.in-Empty.is c.in_ok-find_standing.ensures.found (fresh_or_empty _ c.args.stem c.in_ok-make_first-in-Empty.ensures.made) c.in_ok-make_first-in-Empty.ensures.others

-- what a crash leaves
pub returns-in_err-sync-clause-atomic : goal.returns-in_err-sync-clause-atomic
returns-in_err-sync-clause-atomic g c files is =
    sync_leaves g.D.Disk.tick g.D.Disk.images g.D.Disk.image_since c.args.stem c.args.disk.now c.sync.new.self c.sync.ensures.images c.sync.ensures.time

pub returns-in_err-find_standing-clause-atomic : goal.returns-in_err-find_standing-clause-atomic
returns-in_err-find_standing-clause-atomic g c files is =
    look_leaves g.D.Disk.tick g.D.Disk.images g.D.Disk.image_since c.args.stem c.args.disk.now c.sync.new.self c.find_standing.new.disk c.sync.ensures.images c.sync.ensures.time c.find_standing.ensures.looks.still

pub returns-in-Gap-clause-atomic : goal.returns-in-Gap-clause-atomic
returns-in-Gap-clause-atomic g c files is =
    look_leaves g.D.Disk.tick g.D.Disk.images g.D.Disk.image_since c.args.stem c.args.disk.now c.sync.new.self c.find_standing.new.disk c.sync.ensures.images c.sync.ensures.time c.find_standing.ensures.looks.still

pub returns-in-Second-clause-atomic : goal.returns-in-Second-clause-atomic
returns-in-Second-clause-atomic g c files is =
    look_leaves g.D.Disk.tick g.D.Disk.images g.D.Disk.image_since c.args.stem c.args.disk.now c.sync.new.self c.find_standing.new.disk c.sync.ensures.images c.sync.ensures.time c.find_standing.ensures.looks.still

pub returns-in-First-clause-atomic : goal.returns-in-First-clause-atomic
returns-in-First-clause-atomic g c files is =
    look_leaves g.D.Disk.tick g.D.Disk.images g.D.Disk.image_since c.args.stem c.args.disk.now c.sync.new.self c.scan.new.disk c.sync.ensures.images c.sync.ensures.time
    (reads_both g.D.Disk.tick g.D.Disk.images g.D.Disk.image_since c.sync.new.self c.find_standing.new.disk c.scan.new.disk c.find_standing.ensures.looks.still c.scan.ensures.looks.still)

pub returns-in-First-clause-settled : goal.returns-in-First-clause-settled
returns-in-First-clause-settled g c =
    let looked = still_settled (g.D.Disk.files c.args.disk.now) (g.D.Disk.files c.find_standing.new.disk) (g.D.Disk.images c.sync.new.self) (g.D.Disk.images c.find_standing.new.disk)
    (c.find_standing.ensures.looks.files ∙ c.sync.ensures.files) c.find_standing.ensures.looks.still.now c.in_ok-sync.ensures.settled in
    if_ok_always c.scan.result
    (still_settled (g.D.Disk.files c.find_standing.new.disk) (g.D.Disk.files c.scan.new.disk) (g.D.Disk.images c.find_standing.new.disk) (g.D.Disk.images c.scan.new.disk) c.scan.ensures.looks.files c.scan.ensures.looks.still.now looked)

pub returns-in_err-make_first-in-Empty-clause-atomic : goal.returns-in_err-make_first-in-Empty-clause-atomic
returns-in_err-make_first-in-Empty-clause-atomic g c files is =
    let found = subst (λ s. IfSome (g.D.Disk.files c.sync.new.self) (λ f. IsStanding c.args.stem f s)) c.in-Empty.is c.in_ok-find_standing.ensures.found in
    let none = subst (λ o. IfSome o (NoneFrom c.args.stem 1)) c.sync.ensures.files found in
    let only = still_settled (g.D.Disk.files c.args.disk.now) (g.D.Disk.files c.args.disk.now) (g.D.Disk.images c.sync.new.self) (g.D.Disk.images c.find_standing.new.disk) refl c.find_standing.ensures.looks.still.now c.in_ok-sync.ensures.settled in
    make_leaves g.D.Disk.tick g.D.Disk.images g.D.Disk.image_since c.args.stem c.args.disk.now c.sync.new.self c.find_standing.new.disk c.make_first.new.disk files
    (g.met.D.Disk.reads_now c.args.disk.now files is) (subst (λ o. IfSome o (NoneFrom c.args.stem 1)) is none)
    c.sync.ensures.images c.sync.ensures.time c.find_standing.ensures.looks.still
    (c.make_first.ensures.atomic (each_settled (NoneFrom c.args.stem 1) (g.D.Disk.files c.args.disk.now) (g.D.Disk.images c.find_standing.new.disk) only none))

pub returns-in_ok-make_first-in-Empty-clause-atomic : goal.returns-in_ok-make_first-in-Empty-clause-atomic
returns-in_ok-make_first-in-Empty-clause-atomic g c files is =
    let found = subst (λ s. IfSome (g.D.Disk.files c.sync.new.self) (λ f. IsStanding c.args.stem f s)) c.in-Empty.is c.in_ok-find_standing.ensures.found in
    let none = subst (λ o. IfSome o (NoneFrom c.args.stem 1)) c.sync.ensures.files found in
    let only = still_settled (g.D.Disk.files c.args.disk.now) (g.D.Disk.files c.args.disk.now) (g.D.Disk.images c.sync.new.self) (g.D.Disk.images c.find_standing.new.disk) refl c.find_standing.ensures.looks.still.now c.in_ok-sync.ensures.settled in
    make_leaves g.D.Disk.tick g.D.Disk.images g.D.Disk.image_since c.args.stem c.args.disk.now c.sync.new.self c.find_standing.new.disk c.make_first.new.disk files
    (g.met.D.Disk.reads_now c.args.disk.now files is) (subst (λ o. IfSome o (NoneFrom c.args.stem 1)) is none)
    c.sync.ensures.images c.sync.ensures.time c.find_standing.ensures.looks.still
    (c.make_first.ensures.atomic (each_settled (NoneFrom c.args.stem 1) (g.D.Disk.files c.args.disk.now) (g.D.Disk.images c.find_standing.new.disk) only none))
