use Rattle.std.proofs.Common.{◌≡◌, ◌+◌, drop, Some, Ok, ap, sym, ◌∙◌, subst}
use Rattle.weed_base.specs.Told.{Reads}
use Rattle.weed_base.specs.declared.source.Failed.{Failed}
use Rattle.links.proofs.TextLemmas.{reads_text}
use Rattle.links.specs.MemLinks.{text_of}
use Rattle.links.proofs.mem_link.MemLinkSource.read.Goals as goal

pub returns-clause-bytes : goal.returns-clause-bytes
returns-clause-bytes c =
    let text = c.as_slice.result.now in
    let is : text ≡ text_of c.self.inside.current = c.as_slice.ensures ∙ ap text_of (sym c.in-Some.is) in
    rw (← c.self.view_is)
    (subst (λ held. Reads {E = Failed} (Some (drop c.self.inside.at held)) (Some (drop (c.self.inside.at + c.fill_front-count.result) held)) (Ok c.fill_front-count.result) c.fill_front-count.new.room) is
    (reads_text Failed text _ c.self.inside.at _ c.fill_front-count.ensures.count c.fill_front-count.ensures.bytes))
