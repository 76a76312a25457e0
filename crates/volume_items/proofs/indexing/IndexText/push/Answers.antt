use Rattle.std.proofs.Common.{ap, ◌∙◌, ◌++◌, List, ℕ}
use Rattle.std.proofs.lemmas.Result.{on_ok_weaker}
use Rattle.volume_items.proofs.Entering.{bytes_entered, pushed}
use Rattle.volume_items.proofs.indexing.IndexText.push.Goals as goal

pub returns-clause-enters : goal.returns-clause-enters
returns-clause-enters c =
    on_ok_weaker c.extend_from_slice.result
    (λ items. bytes_entered c.args.self.now c.extend_from_slice.new.self.items c.write.result c.args.entry
    (items ∙ ap (λ (l : List ℕ). l ++ c.write.result) c.self.view_is) c.write.ensures.text c.write.ensures.read_back)
    (pushed c.extend_from_slice.result c.self.inside.bytes.items c.extend_from_slice.new.self.items c.write.result c.extend_from_slice.ensures.items)
