use Rattle.std.proofs.Common.{◌≡◌, ◌∙◌, true, false, ap, sym, inr, Some}
use Rattle.std.specs.Result.{is_err}
use Rattle.std.specs.Option.{option_map}
use Rattle.name_core.specs.Log.{after_record}
use Rattle.meta_log.specs.Kept.{front_of}
use Rattle.meta_log.specs.declared.front.Front.{Front}
use Rattle.filer.specs.Plans.{front_behind}
use Rattle.meta_log.specs.Records.{ReadsAs}
use Rattle.filer.proofs.Applying.{of_err, of_ok, either, settles, tears, strands, publishes, more_held, rest_held}
use Rattle.filer.proofs.state.FilerState.add.Goals as goal

pub returns-then-is_err-clause-added : goal.returns-then-is_err-clause-added
returns-then-is_err-clause-added g c =
    let reads : ReadsAs c.in_ok-ready.ready c.args.made = c.in_ok-ready.ensures.reads in
    let bad : is_err c.append.result ≡ true = cc (c.is_err.ensures.value, c.if-is_err.true) in
    tears g.D.Disk g.K.Names.map c.args.made c.in_ok-ready.ready c.args.self.now c.prepare.new.self c.args.disk.now c.append.new.disk c.prepare.ensures.log reads _
    c.append.ensures.others (of_err _ c.append.result bad c.append.ensures.failed)
    (either g.D.Disk g.K.Names.map c.args.made c.in_ok-ready.ready c.args.self.now c.prepare.new.self c.args.disk.now c.append.new.disk c.prepare.ensures.log reads c.append.ensures.atomic)
    c.prepare.ensures.names (record { list = c.prepare.ensures.published.list; front = c.prepare.ensures.published.front })

pub returns-then-is_err-2-clause-added : goal.returns-then-is_err-2-clause-added
returns-then-is_err-2-clause-added g c =
    let reads : ReadsAs c.in_ok-ready.ready c.args.made = c.in_ok-ready.ensures.reads in
    let good : is_err c.append.result ≡ false = cc (c.is_err.ensures.value, c.if-is_err.false) in
    inr (strands g.D.Disk g.K.Names.map c.args.made c.in_ok-ready.ready c.args.self.now c.prepare.new.self c.args.disk.now c.append.new.disk c.prepare.ensures.log reads _
    c.append.ensures.others (of_ok _ c.append.result good c.append.ensures.appended)
    (either g.D.Disk g.K.Names.map c.args.made c.in_ok-ready.ready c.args.self.now c.prepare.new.self c.args.disk.now c.append.new.disk c.prepare.ensures.log reads c.append.ensures.atomic)
    (settles g.D.Disk g.K.Names.map c.args.made c.in_ok-ready.ready c.args.self.now c.prepare.new.self c.args.disk.now c.append.new.disk c.prepare.ensures.log reads (of_ok _ c.append.result good c.append.ensures.settled))
    (record { list = c.prepare.ensures.published.list; front = c.prepare.ensures.published.front }))

pub returns-clause-added : goal.returns-clause-added
returns-clause-added g c =
    let reads : ReadsAs c.in_ok-ready.ready c.args.made = c.in_ok-ready.ensures.reads in
    let good : is_err c.append.result ≡ false = cc (c.is_err.ensures.value, c.if-is_err.false) in
    let done : is_err c.commit.result ≡ false = cc (c.is_err-2.ensures.value, c.if-is_err-2.false) in
    let front : c.front-self.result ≡ front_behind c.args.made c.args.self.now.published =
    c.front-self.ensures.front ∙ of_ok _ c.append.result good c.append.ensures.front ∙ ap (front_behind c.args.made) (ap front_of c.prepare.ensures.log ∙ c.requires.level) in
    let published = publishes g.D.Disk g.K.Names.map c.args.made c.in_ok-ready.ready c.args.self.now c.prepare.new.self c.args.disk.now c.append.new.disk c.prepare.ensures.log reads _
    c.append.ensures.others (of_ok _ c.append.result good c.append.ensures.appended) (of_ok _ c.append.result good c.append.ensures.text_appended)
    (either g.D.Disk g.K.Names.map c.args.made c.in_ok-ready.ready c.args.self.now c.prepare.new.self c.args.disk.now c.append.new.disk c.prepare.ensures.log reads c.append.ensures.atomic)
    (settles g.D.Disk g.K.Names.map c.args.made c.in_ok-ready.ready c.args.self.now c.prepare.new.self c.args.disk.now c.append.new.disk c.prepare.ensures.log reads (of_ok _ c.append.result good c.append.ensures.settled))
    (of_ok _ c.commit.result done c.commit.ensures.map ∙ ap (option_map (after_record c.args.made)) c.prepare.ensures.names)
    (λ list stands. c.publish.ensures.list list c.in_ok-ready.ready (c.prepare.ensures.published.list list stands) (c.in_ok-ready.ensures.offered ∙ ap Some (sym c.in_ok-ready.ensures.ready)))
    front (sym c.front-self.ensures.front) in
    (ap (λ (f : Front). record { time = Some c.args.made.time; count = f.count }) front, published)

pub returns-clause-held : goal.returns-clause-held
returns-clause-held g c = λ _.
    let reads : ReadsAs c.in_ok-ready.ready c.args.made = c.in_ok-ready.ensures.reads in
    let good : is_err c.append.result ≡ false = cc (c.is_err.ensures.value, c.if-is_err.false) in
    let done : is_err c.commit.result ≡ false = cc (c.is_err-2.ensures.value, c.if-is_err-2.false) in
    let front : c.front-self.result ≡ front_behind c.args.made c.args.self.now.published =
    c.front-self.ensures.front ∙ of_ok _ c.append.result good c.append.ensures.front ∙ ap (front_behind c.args.made) (ap front_of c.prepare.ensures.log ∙ c.requires.level) in
    let published = publishes g.D.Disk g.K.Names.map c.args.made c.in_ok-ready.ready c.args.self.now c.prepare.new.self c.args.disk.now c.append.new.disk c.prepare.ensures.log reads _
    c.append.ensures.others (of_ok _ c.append.result good c.append.ensures.appended) (of_ok _ c.append.result good c.append.ensures.text_appended)
    (either g.D.Disk g.K.Names.map c.args.made c.in_ok-ready.ready c.args.self.now c.prepare.new.self c.args.disk.now c.append.new.disk c.prepare.ensures.log reads c.append.ensures.atomic)
    (settles g.D.Disk g.K.Names.map c.args.made c.in_ok-ready.ready c.args.self.now c.prepare.new.self c.args.disk.now c.append.new.disk c.prepare.ensures.log reads (of_ok _ c.append.result good c.append.ensures.settled))
    (of_ok _ c.commit.result done c.commit.ensures.map ∙ ap (option_map (after_record c.args.made)) c.prepare.ensures.names)
    (λ list stands. c.publish.ensures.list list c.in_ok-ready.ready (c.prepare.ensures.published.list list stands) (c.in_ok-ready.ensures.offered ∙ ap Some (sym c.in_ok-ready.ensures.ready)))
    front (sym c.front-self.ensures.front) in
    more_held g.D.Disk g.K.Names.map c.args.made c.args.self.now _ c.args.disk.now c.append.new.disk c.append.ensures.others published c.requires.held

pub returns-in_err-ready-clause-held : goal.returns-in_err-ready-clause-held
returns-in_err-ready-clause-held g c = λ _.
    rest_held g.K.Names.map c.args.self.now c.prepare.new.self (g.D.Disk.files c.args.disk.now) c.prepare.ensures.log c.prepare.ensures.names c.prepare.ensures.published c.requires.held
