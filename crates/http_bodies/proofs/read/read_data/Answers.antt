use Rattle.std.proofs.Common.{◌≡◌, Ok, Err, false, ap, sym, ◌∙◌, subst}
use Rattle.std.proofs.lemmas.Result.{err_from_is_err_and}
use Rattle.http_wire.specs.Inbox.{left_of}
use Rattle.http_bodies.specs.declared.stage.Stage.TheVariants.{Length, Over, Chunk}
use Rattle.http_bodies.specs.declared.fault.BodyFault.TheVariants.{TooLong}
use Rattle.http_bodies.specs.Stage.{is_between}
use Rattle.http_bodies.specs.Body.{ReadsBody}
use Rattle.http_bodies.proofs.ReadLemmas.{refused_by_length, refused_of_chunk, data_by_length, data_of_chunk, refused_over}
use Rattle.http_bodies.proofs.read.read_data.Goals as goal

pub returns-in_err-count-in-Length-clause-read : goal.returns-in_err-count-in-Length-clause-read
returns-in_err-count-in-Length-clause-read g c =
    let p = err_from_is_err_and c.from_residual.result c.from_residual.ensures.1 in
    let stage : c.args.body.now ≡ Length c.in-Length.left = sym c.stage.ensures.is ∙ c.in-Length.is in
    let left = left_of c.args.inbox.now (g.S.Source.left c.args.from.now) in
    let new = left_of c.take_data.new.inbox (g.S.Source.left c.take_data.new.from) in
    subst (λ r. ReadsBody r c.args.body.now c.args.body.now left new c.take_data.new.room) (sym (p.1 ∙ ap Err p.2))
    (subst (λ s. ReadsBody (Err c.in_err-count-in-Length.field-0.0) s s left new c.take_data.new.room) (sym stage)
    (refused_by_length c.in_err-count-in-Length.field-0.0 c.in-Length.left left new c.take_data.new.room c.in_err-count-in-Length.ensures.data))

pub returns-in_err-count-in-Chunk-clause-read : goal.returns-in_err-count-in-Chunk-clause-read
returns-in_err-count-in-Chunk-clause-read g c =
    let p = err_from_is_err_and c.from_residual-in_err-count-in-Chunk.result c.from_residual-in_err-count-in-Chunk.ensures.1 in
    let stage : c.args.body.now ≡ Chunk c.in-Chunk.left c.in-Chunk.allowed = sym c.stage.ensures.is ∙ c.in-Chunk.is in
    let left = left_of c.args.inbox.now (g.S.Source.left c.args.from.now) in
    let new = left_of c.take_data-in-Chunk.new.inbox (g.S.Source.left c.take_data-in-Chunk.new.from) in
    subst (λ r. ReadsBody r c.args.body.now c.args.body.now left new c.take_data-in-Chunk.new.room) (sym (p.1 ∙ ap Err p.2))
    (subst (λ s. ReadsBody (Err c.in_err-count-in-Chunk.field-0.0) s s left new c.take_data-in-Chunk.new.room) (sym stage)
    (refused_of_chunk c.in_err-count-in-Chunk.field-0.0 c.in-Chunk.left c.in-Chunk.allowed left new c.take_data-in-Chunk.new.room c.in_err-count-in-Chunk.ensures.data))

pub returns-in_ok-count-in-Length-clause-read : goal.returns-in_ok-count-in-Length-clause-read
returns-in_ok-count-in-Length-clause-read g c =
    let stage : c.args.body.now ≡ Length c.in-Length.left = sym c.stage.ensures.is ∙ c.in-Length.is in
    let left = left_of c.args.inbox.now (g.S.Source.left c.args.from.now) in
    let new = left_of c.take_data.new.inbox (g.S.Source.left c.take_data.new.from) in
    subst (λ s. ReadsBody (Ok c.in_ok-count-in-Length.count) s c.go.new.self left new c.take_data.new.room) (sym stage)
    (subst (λ s. ReadsBody (Ok c.in_ok-count-in-Length.count) (Length c.in-Length.left) s left new c.take_data.new.room) (sym c.go.ensures)
    (data_by_length c.in_ok-count-in-Length.count c.in-Length.left left new c.take_data.new.room c.in_ok-count-in-Length.ensures.data))

pub returns-in_ok-count-in-Chunk-clause-read : goal.returns-in_ok-count-in-Chunk-clause-read
returns-in_ok-count-in-Chunk-clause-read g c =
    let stage : c.args.body.now ≡ Chunk c.in-Chunk.left c.in-Chunk.allowed = sym c.stage.ensures.is ∙ c.in-Chunk.is in
    let between : is_between (Chunk c.in-Chunk.left c.in-Chunk.allowed) ≡ false = subst (λ s. is_between s ≡ false) stage c.requires.data in
    let left = left_of c.args.inbox.now (g.S.Source.left c.args.from.now) in
    let new = left_of c.take_data-in-Chunk.new.inbox (g.S.Source.left c.take_data-in-Chunk.new.from) in
    subst (λ s. ReadsBody (Ok c.in_ok-count-in-Chunk.count) s c.go-in-Chunk.new.self left new c.take_data-in-Chunk.new.room) (sym stage)
    (subst (λ s. ReadsBody (Ok c.in_ok-count-in-Chunk.count) (Chunk c.in-Chunk.left c.in-Chunk.allowed) s left new c.take_data-in-Chunk.new.room) (sym c.go-in-Chunk.ensures)
    (data_of_chunk c.in_ok-count-in-Chunk.count c.in-Chunk.left c.in-Chunk.allowed left new c.take_data-in-Chunk.new.room between c.in_ok-count-in-Chunk.ensures.data))

pub returns-in-Over-clause-read : goal.returns-in-Over-clause-read
returns-in-Over-clause-read g c =
    let stage : c.args.body.now ≡ Over = sym c.stage.ensures.is ∙ c.in-Over.is in
    let left = left_of c.args.inbox.now (g.S.Source.left c.args.from.now) in
    subst (λ s. ReadsBody (Err TooLong) s s left left c.args.room.now) (sym stage) (refused_over left c.args.room.now)
