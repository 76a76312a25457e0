use Rattle.std.proofs.Common.{◌≡◌, ℕ, ◌+◌, ◌<◌, List, ◌∷◌, [], ◌++◌, take, length, sym, ap, ◌∙◌, subst, get_or}
use Rattle.std.proofs.lemmas.List.{take_more, flat_map_more}
use Rattle.proto_wire.specs.Text.{message_field}
use Rattle.name_core.specs.declared.change.Change.{Change}
use Rattle.records.specs.Lengths.{Measures}
use Rattle.records.specs.RecordText.{change_text, events_text}
use Rattle.records.proofs.counting.count_events.Goals as goal

-- The text with one event more
event_more : (front : List ℕ) (changes : List Change) (i : ℕ) (change : Change) → i < length changes → change ≡ get_or changes i change
    → (front ++ events_text (take i changes)) ++ message_field 2 (change_text change) ≡ front ++ events_text (take (i + 1) changes)
event_more front changes i change within is =
    flat_map_more (λ c. message_field 2 (change_text c)) front (take i changes) change
    ∙ ap (λ cs. front ++ events_text cs) (ap (λ c. take i changes ++ c ∷ []) is ∙ sym (take_more changes i change within))

pub loop-change-preserved : goal.loop-change-preserved
loop-change-preserved c = λ front is.
    subst (Measures c.message.new.self.size) (event_more front c.args.changes.now c.loop-change.change-index c.change-item.result c.loop-change-test.true c.change-item.is)
    (c.message.ensures _ (change_text c.change-item.result) (c.loop-change.invariant front is) c.change_size.ensures)
