use Rattle.std.proofs.Common.{◌∙◌, Some, ap, subst, codes, arith}
use Rattle.memchr.specs.Find.{FindsNeedle}
use Rattle.http_bodies.proofs.TrailerLemmas.{finds_empty, finds_trailer, finds_too_long, finds_crowded, finds_open}
use Rattle.http_bodies.proofs.mark.read_trailer.Goals as goal

pub returns-in-Some-eq0 : goal.returns-in-Some-eq0
returns-in-Some-eq0 c = finds_empty c.args.bytes.now c.args.room (subst (FindsNeedle c.args.bytes.now (codes "\r\n") 0) (c.in-Some-eq0.is ∙ ap Some (omega (arith, c.in-Some-eq0.field-0-test))) c.find.ensures)

pub returns-in-Some : goal.returns-in-Some
returns-in-Some c = finds_trailer c.args.bytes.now c.args.room c.in-Some.place (subst (FindsNeedle c.args.bytes.now (codes "\r\n") 0) (c.in-Some.is ∙ ap Some c.in-Some.place-is) c.find.ensures) (omega (arith, c.in-Some.place-test)) (omega (arith, c.if-place-room.true)) c.requires

pub returns-in-Some-2 : goal.returns-in-Some-2
returns-in-Some-2 c = finds_too_long c.args.bytes.now c.args.room c.in-Some.place (subst (FindsNeedle c.args.bytes.now (codes "\r\n") 0) (c.in-Some.is ∙ ap Some c.in-Some.place-is) c.find.ensures) (omega (arith, c.in-Some.place-test)) (omega (arith, c.if-place-room.false))

pub returns-in-None : goal.returns-in-None
returns-in-None c = finds_open c.args.bytes.now c.args.room (subst (FindsNeedle c.args.bytes.now (codes "\r\n") 0) c.in-None.is c.find.ensures) (omega (arith, c.if-least_line-max.true, c.least_line.ensures, c.max.ensures)) c.requires

pub returns-in-None-2 : goal.returns-in-None-2
returns-in-None-2 c = finds_crowded c.args.bytes.now c.args.room (subst (FindsNeedle c.args.bytes.now (codes "\r\n") 0) c.in-None.is c.find.ensures) (omega (arith, c.if-least_line-max.false, c.least_line.ensures, c.max.ensures))
