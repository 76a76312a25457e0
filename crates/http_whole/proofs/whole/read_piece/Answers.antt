use Rattle.std.proofs.Common.{rules, ◌≡◌, ◌≤◌, ◌<◌, ◌+◌, ◌-◌, length, take, drop, Ok, Err, ap, sym, ◌∙◌, subst, arith}
use Rattle.std.proofs.lemmas.List.{length-drop}
use Rattle.std.proofs.lemmas.Grind.{common_steps}
use Rattle.std.proofs.lemmas.Result.{err_from_is_err_and}
use Rattle.http_wire.specs.Inbox.{left_of}
use Rattle.http_bodies.specs.declared.fault.BodyFault.TheVariants.{Memory}
use Rattle.http_bodies.specs.Body.{ReadsBody}
use Rattle.http_whole.specs.Whole.{ReadsPiece}
use Rattle.http_whole.proofs.WholeLemmas.{cut_back, none_grown, piece_ok, piece_end, piece_err}
use Rattle.http_whole.proofs.whole.read_piece.Goals as goal

pub returns-in_err-resize-clause-read : goal.returns-in_err-resize-clause-read
returns-in_err-resize-clause-read g c =
    let p = err_from_is_err_and c.from_residual.result c.from_residual.ensures.1 in
    let left = left_of c.args.inbox.now (g.S.Source.left c.args.from.now) in
    subst (λ r. ReadsPiece r c.args.body.now c.args.body.now left left c.args.held.now.items c.resize.new.self.items) (sym (p.1 ∙ ap Err p.2))
    (subst (λ xs. ReadsPiece (Err Memory) c.args.body.now c.args.body.now left left c.args.held.now.items xs) (sym c.in_err-resize.ensures.items)
    (none_grown c.args.body.now left c.args.held.now.items, tt))

pub returns-in-Ok-eq0-clause-read : goal.returns-in-Ok-eq0-clause-read
returns-in-Ok-eq0-clause-read g c =
    let end = c.len-end.result in
    let room = c.read_behind.new.room in
    let left = left_of c.args.inbox.now (g.S.Source.left c.args.from.now) in
    let new = left_of c.read_behind.new.inbox (g.S.Source.left c.read_behind.new.from) in
    let same : end ≡ length c.args.held.now.items = search rules in
    let front : take end room ≡ take end c.resize.new.self.items = search rules in
    let some : end < length room = grind (arith, common_steps) in
    let read : ReadsBody (Ok 0) c.args.body.now c.read_behind.new.body left new (drop end room) = search rules in
    let made : c.truncate.new.self.items ≡ take end room = cut_back c.truncate.new.self.items room _ end c.resize.new.self.len (grind (arith, common_steps)) (omega (arith, some)) c.truncate.ensures.items in
    piece_end c.args.body.now c.read_behind.new.body left new c.args.held.now.items c.resize.new.self.items _ room c.truncate.new.self.items end (end + 65536) same c.in_ok-resize.ensures.items (omega arith) front some read made

pub returns-in-Ok-clause-read : goal.returns-in-Ok-clause-read
returns-in-Ok-clause-read g c =
    let end = c.len-end.result in
    let room = c.read_behind.new.room in
    let left = left_of c.args.inbox.now (g.S.Source.left c.args.from.now) in
    let new = left_of c.read_behind.new.inbox (g.S.Source.left c.read_behind.new.from) in
    let same : end ≡ length c.args.held.now.items = search rules in
    let front : take end room ≡ take end c.resize.new.self.items = search rules in
    let some : end < length room = grind (arith, common_steps) in
    let fits : c.in-Ok.count ≤ length room - end = omega (arith, length-drop end room, c.in-Ok.ensures.read.0) in
    let made : c.truncate-in-Ok.new.self.items ≡ take (end + c.in-Ok.count) room = cut_back c.truncate-in-Ok.new.self.items room _ (end + c.in-Ok.count) c.resize.new.self.len (grind (arith, common_steps)) (omega (arith, some, fits)) c.truncate-in-Ok.ensures.items in
    let more : 0 < c.in-Ok.count = grind (arith, common_steps) in
    piece_ok c.args.body.now c.read_behind.new.body left new c.args.held.now.items c.resize.new.self.items _ room c.truncate-in-Ok.new.self.items end (end + 65536) c.in-Ok.count same c.in_ok-resize.ensures.items (omega arith) front some c.in-Ok.ensures.read more made

pub returns-in-Err-clause-read : goal.returns-in-Err-clause-read
returns-in-Err-clause-read g c =
    let end = c.len-end.result in
    let room = c.read_behind.new.room in
    let left = left_of c.args.inbox.now (g.S.Source.left c.args.from.now) in
    let new = left_of c.read_behind.new.inbox (g.S.Source.left c.read_behind.new.from) in
    let same : end ≡ length c.args.held.now.items = search rules in
    let front : take end room ≡ take end c.resize.new.self.items = search rules in
    let some : end < length room = grind (arith, common_steps) in
    let made : c.truncate-in-Err.new.self.items ≡ take end room = cut_back c.truncate-in-Err.new.self.items room _ end c.resize.new.self.len (grind (arith, common_steps)) (omega (arith, some)) c.truncate-in-Err.ensures.items in
    piece_err c.args.body.now c.read_behind.new.body left new c.args.held.now.items c.resize.new.self.items _ room c.truncate-in-Err.new.self.items end (end + 65536) c.in-Err.fault same c.in_ok-resize.ensures.items (omega arith) front c.in-Err.ensures.read made
