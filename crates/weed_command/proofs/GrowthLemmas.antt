-- No file is touched but the log's own, which grows by texts of records: by nothing at all, by an opening or an append,
-- and by one call behind another.
use Rattle.std.proofs.Common.{◌≡◌, ◌∙◌, ℕ, List, [], ◌∷◌, ◌++◌, map, Option, Some, None, refl, sym, ap, subst, inl, inr, append_assoc, append-nil}
use Rattle.weed_base.specs.Files.{Files, BothTold}
use Rattle.name_core.specs.declared.change.Record.{Record}
use Rattle.records.specs.RecordText.{record_text}
use Rattle.meta_log.specs.LogText.{segment_name, ChangesOnly, IsLogText}
use Rattle.meta_log.specs.Held.{TellsText, TellsEither}
use Rattle.meta_log.specs.Images.{IsMadeFrom}
use Rattle.meta_log.specs.Making.{LeavesOthers}
use Rattle.meta_log.specs.declared.stem.Stem.TheVariants.{Log}
use Rattle.meta_log.proofs.OpenCrashes.{list_of}
use Rattle.weed_command.specs.Growth.{GrowsByRecords}

-- Nothing was made.
pub made_stays : (told : Option Files) → BothTold (IsMadeFrom Log) told told
made_stays None = tt
made_stays (Some files) = inl refl

-- With no record more
with_none : (files : Files) (payloads : List (List ℕ)) → IsLogText Log files payloads → (added : List Record) × IsLogText Log files (payloads ++ map record_text added)
with_none files payloads text = ([], subst (IsLogText Log files) (sym (append-nil payloads)) text)

-- Nothing was changed.
pub grows_not : (told : Option Files) → BothTold GrowsByRecords told told
grows_not None = tt
grows_not (Some files) = record { others = λ name no_segment no_marker. refl; text = with_none files }

-- The texts of some records and of others behind them
texts_both : (first second : List Record) → map record_text (first ++ second) ≡ map record_text first ++ map record_text second
texts_both [] second = refl
texts_both (x ∷ first) second = ap (λ (texts : List (List ℕ)). record_text x ∷ texts) (texts_both first second)

-- One call behind another.
pub grows_twice : (old mid new : Option Files) → BothTold GrowsByRecords old mid → BothTold GrowsByRecords mid new → BothTold GrowsByRecords old new
grows_twice None None None first second = tt
grows_twice None None (Some new) first second = absurd second
grows_twice None (Some mid) new first second = absurd first
grows_twice (Some old) None new first second = absurd first
grows_twice (Some old) (Some mid) None first second = absurd second
grows_twice (Some old) (Some mid) (Some new) first second = record {
  others = λ name no_segment no_marker. second.others name no_segment no_marker ∙ first.others name no_segment no_marker;
  text = λ payloads text.
      let (some, grown) = first.text payloads text in
      let (more, whole) = second.text (payloads ++ map record_text some) grown in
      let same : (payloads ++ map record_text some) ++ map record_text more ≡ payloads ++ map record_text (some ++ more) =
      append_assoc payloads (map record_text some) (map record_text more) ∙ ap (λ (texts : List (List ℕ)). payloads ++ texts) (sym (texts_both some more))
      in (some ++ more, subst (IsLogText Log new) same whole);
}

-- The log was opened.
pub grows_opened : (old new : Option Files) → BothTold (LeavesOthers Log) old new → BothTold (IsMadeFrom Log) old new → BothTold GrowsByRecords old new
grows_opened None None others made = tt
grows_opened None (Some new) others made = absurd others
grows_opened (Some old) None others made = absurd others
grows_opened (Some old) (Some new) others made = record {
  others = others;
  text = λ payloads text.
      let (before, same, keeps) = list_of Log (λ before. before ≡ old) new (old, refl, made) in
      with_none new payloads (keeps payloads (subst (λ (files : Files). IsLogText Log files payloads) (sym same) text));
}

-- A record was appended.
pub grows_appended : (old new : Option Files) (made : Record) (text : List ℕ) → text ≡ record_text made → BothTold (ChangesOnly (segment_name Log 1)) old new
    → ((payloads : List (List ℕ)) → TellsText Log old payloads → TellsText Log new (payloads ++ text ∷ [])) → BothTold GrowsByRecords old new
grows_appended None None made text is only grown = tt
grows_appended None (Some new) made text is only grown = absurd only
grows_appended (Some old) None made text is only grown = absurd only
grows_appended (Some old) (Some new) made text is only grown = record {
  others = λ name no_segment no_marker. only name no_segment;
  text = λ payloads log. (made ∷ [], subst (λ (known : List ℕ). IsLogText Log new (payloads ++ known ∷ [])) is (grown payloads log));
}

-- An append of one failed.
pub grows_or_not : (old new : Option Files) (made : Record) (text : List ℕ) → text ≡ record_text made → BothTold (ChangesOnly (segment_name Log 1)) old new
    → ((payloads : List (List ℕ)) → TellsText Log old payloads → TellsEither Log new payloads text) → BothTold GrowsByRecords old new
grows_or_not None None made text is only either = tt
grows_or_not None (Some new) made text is only either = absurd only
grows_or_not (Some old) None made text is only either = absurd only
grows_or_not (Some old) (Some new) made text is only either = record {
  others = λ name no_segment no_marker. only name no_segment;
  text = λ payloads log.
      elim (either payloads log) [
        | inl same ↦ with_none new payloads same
        | inr more ↦ (made ∷ [], subst (λ (known : List ℕ). IsLogText Log new (payloads ++ known ∷ [])) is more)
      ];
}
