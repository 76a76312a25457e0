use Rattle.std.proofs.Common.{◌≡◌, ℕ, ◌+◌, ◌<◌, List, ◌∷◌, [], ◌++◌, take, length, All, Ok, sym, ap, ◌∙◌, subst, arith, get_or}
use Rattle.std.proofs.lemmas.List.{take_all, take_more, flat_map_more}
use Rattle.std.proofs.lemmas.List.Elements.{All-more}
use Rattle.std.specs.List.{flat_map}
use Rattle.proto_wire.specs.Text.{varint_field, message_field}
use Rattle.name_core.specs.declared.change.Change.{Change}
use Rattle.records.specs.RecordReading.{record_of}
use Rattle.records.specs.RecordText.{change_text, record_text, FitsChange}
use Rattle.records.proofs.RoundTrip.{written_is_read}
use Rattle.records.proofs.record_writing.write_record.Goals as goal

-- The text with one event more
event_more : (front : List ℕ) (changes : List Change) (i : ℕ) (change : Change) → i < length changes → change ≡ get_or changes i change
    → (front ++ flat_map (λ c. message_field 2 (change_text c)) (take i changes)) ++ message_field 2 (change_text change)
    ≡ front ++ flat_map (λ c. message_field 2 (change_text c)) (take (i + 1) changes)
event_more front changes i change within is =
    let event : Change → List ℕ = λ c. message_field 2 (change_text c) in
    flat_map_more event front (take i changes) change
    ∙ ap (λ cs. front ++ flat_map event cs) (ap (λ c. take i changes ++ c ∷ []) is ∙ sym (take_more changes i change within))

pub loop-change-preserved : goal.loop-change-preserved
loop-change-preserved c = record {
  text = c.in_ok-message.ensures.ok
      ∙ ap (λ event. c.loop-change.text ++ message_field 2 event) (c.as_slice.ensures ∙ c.in_ok-set_event.ensures.text)
      ∙ ap (λ text. text ++ message_field 2 (change_text c.change-item.result)) c.loop-change.invariant.text
      ∙ event_more _ _ c.loop-change.change-index c.change-item.result (omega arith) c.change-item.is;
  fits = All-more FitsChange _ c.loop-change.change-index c.change-item.result (omega arith) c.loop-change.invariant.fits (subst FitsChange c.change-item.is c.in_ok-set_event.ensures.fits);
}

pub returns-clause-read_back : goal.returns-clause-read_back
returns-clause-read_back c =
    let all : take c.loop-change.change-index c.as_slice-change-items.result.now ≡ c.args.step.now.changes =
    take_all c.loop-change.change-index c.as_slice-change-items.result.now (omega arith) ∙ c.as_slice-change-items.ensures in
    let text : c.of.result ≡ record_text c.args.step.now =
    c.of.ensures ∙ c.into_vec.ensures ∙ c.done.ensures ∙ c.loop-change.invariant.text
    ∙ ap (λ changes. varint_field 1 c.args.step.now.time ++ flat_map (λ change. message_field 2 (change_text change)) changes) all in
    let long : length (record_text c.args.step.now) ≡ length c.into_vec.result.items = ap length (sym text ∙ c.of.ensures) in
    let kept = c.into_vec.result.ok in
    let small = c.into_vec.result.small in
    subst (λ t. record_of t ≡ Ok c.args.step.now) (sym text)
    (written_is_read c.args.step.now c.requires (subst (All FitsChange) all c.loop-change.invariant.fits) (omega arith))
