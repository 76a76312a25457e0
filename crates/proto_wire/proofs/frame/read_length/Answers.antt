use Rattle.std.proofs.Common.{◌≡◌, ◌<◌, ℕ, List, length, take, subst, arith, ◌∙◌}
use Rattle.std.proofs.lemmas.List.{take_all, length-take-le}
use Rattle.weed_base.specs.Told.{Consumes}
use Rattle.proto_wire.proofs.Frames.{ended, length_none, length_some, length_cut}
use Rattle.proto_wire.proofs.frame.read_length.Goals as goal

pub returns-in-0-clause-exact : goal.returns-in-0-clause-exact
returns-in-0-clause-exact g c =
    let left = g.S.Source.left in
    let read = c.in_ok-read_full.ensures.bytes in
    length_none (left c.args.from.now) (ended (left c.args.from.now) (left c.read_full.new.from) c.read_full.new.room c.in_ok-read_full.field-0 c.in-0.is read.1 (read.2 (omega arith)))

pub returns-in-4-clause-exact : goal.returns-in-4-clause-exact
returns-in-4-clause-exact g c =
    let left = g.S.Source.left in
    let read = c.in_ok-read_full.ensures.bytes in
    let head : List ℕ = c.read_full.new.room in
    let whole : take c.in_ok-read_full.field-0 head ≡ head = take_all c.in_ok-read_full.field-0 head (omega arith) in
    length_some (left c.args.from.now) (left c.read_full.new.from) head c.spelled_length.result (subst (Consumes (left c.args.from.now) (left c.read_full.new.from)) whole read.1) (omega arith) c.spelled_length.ensures.value

pub returns-in-4-clause-taken : goal.returns-in-4-clause-taken
returns-in-4-clause-taken g c =
    let left = g.S.Source.left in
    let read = c.in_ok-read_full.ensures.bytes in
    let head : List ℕ = c.read_full.new.room in
    let whole : take c.in_ok-read_full.field-0 head ≡ head = take_all c.in_ok-read_full.field-0 head (omega arith) in
    subst (Consumes (left c.args.from.now) (left c.read_full.new.from)) (whole ∙ c.spelled_length.ensures.text) read.1

pub returns-in_default-clause-exact : goal.returns-in_default-clause-exact
returns-in_default-clause-exact g c =
    let left = g.S.Source.left in
    let read = c.in_ok-read_full.ensures.bytes in
    let head : List ℕ = c.read_full.new.room in
    let count : ℕ = c.in_ok-read_full.field-0 in
    let long : length (take count head) ≡ count = length-take-le count head read.0 in
    let few : count < 4 = omega arith in
    length_cut (left c.args.from.now) (left c.read_full.new.from) (take count head) read.1 (omega arith) (omega arith) (read.2 (omega arith))
