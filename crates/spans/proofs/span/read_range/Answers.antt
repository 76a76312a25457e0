use Rattle.std.proofs.Common.{◌≡◌, Option, filter, length, subst, sym, ap, ◌∙◌, arith}
use Rattle.std.specs.Prelude.{All}
use Rattle.std.proofs.lemmas.Result.{IfOk-weaker, IfErr-weaker, on_ok_weaker}
use Rattle.std.proofs.lemmas.List.Elements.{All-filter}
use Rattle.std.proofs.lemmas.List.Sums.{length-filter, count_by-le-length}
use Rattle.entry.specs.Entry.{IsValidChunk}
use Rattle.entry.specs.Needles.{Needles}
use Rattle.spans.specs.Denotation.{is_near}
use Rattle.spans.proofs.Near.{bytes_near, served_near, stops_near}
use Rattle.spans.proofs.span.read_range.Goals as goal

pub read_spans-requires-clause-valid : goal.read_spans-requires-clause-valid
read_spans-requires-clause-valid g c =
    let near_is : c.deref.result.now ≡ filter (is_near c.args.from c.args.to) c.args.chunks.now = c.deref.ensures.value ∙ c.in_ok-near.ensures in
    subst (All IsValidChunk) (sym near_is) (All-filter (is_near c.args.from c.args.to) IsValidChunk c.args.chunks.now c.requires.valid)

pub read_spans-requires-clause-few : goal.read_spans-requires-clause-few
read_spans-requires-clause-few g c =
    let near_is : c.deref.result.now ≡ filter (is_near c.args.from c.args.to) c.args.chunks.now = c.deref.ensures.value ∙ c.in_ok-near.ensures in
    omega (arith, ap length near_is, length-filter (is_near c.args.from c.args.to) c.args.chunks.now, count_by-le-length (is_near c.args.from c.args.to) c.args.chunks.now, c.requires.few)

pub returns-clause-bytes : goal.returns-clause-bytes
returns-clause-bytes g c =
    let told : Option Needles = g.B.Blobs.needles c.args.blobs.now in
    let near_is : c.deref.result.now ≡ filter (is_near c.args.from c.args.to) c.args.chunks.now = c.deref.ensures.value ∙ c.in_ok-near.ensures in
    IfOk-weaker c.read_spans.result _ _ (λ bytes bytes_are. bytes_near told c.args.chunks.now c.deref.result.now c.args.from c.args.to bytes c.requires.ordered near_is bytes_are) c.read_spans.ensures.bytes

pub returns-clause-served : goal.returns-clause-served
returns-clause-served g c =
    let told : Option Needles = g.B.Blobs.needles c.args.blobs.now in
    let near_is : c.deref.result.now ≡ filter (is_near c.args.from c.args.to) c.args.chunks.now = c.deref.ensures.value ∙ c.in_ok-near.ensures in
    on_ok_weaker c.read_spans.result (served_near told c.args.chunks.now c.deref.result.now c.args.from c.args.to c.args.to near_is (omega arith)) c.read_spans.ensures.served

pub returns-clause-stopped : goal.returns-clause-stopped
returns-clause-stopped g c =
    let told : Option Needles = g.B.Blobs.needles c.args.blobs.now in
    let near_is : c.deref.result.now ≡ filter (is_near c.args.from c.args.to) c.args.chunks.now = c.deref.ensures.value ∙ c.in_ok-near.ensures in
    IfErr-weaker c.read_spans.result _ _ (λ fault stops. stops_near told c.args.chunks.now c.deref.result.now c.args.from c.args.to fault near_is stops) c.read_spans.ensures.stopped
