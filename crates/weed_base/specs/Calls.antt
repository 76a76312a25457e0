-- The calls of a memory form, of which those with listed numbers fail, and all from a number on.
use Rattle.std.specs.Prelude.{◌≡◌, ℕ, ◌-◌, ◌^◌, ◌==◌, ◌||◌, Bool, List, nat_le, if◌then◌else◌}
use Rattle.std.specs.List.{list_any}
use Rattle.weed_base.specs.Told.{raised}

-- How many calls were made, the numbers of those that fail, the number from which on all fail, and how many failed.
pub record CallState : Type 0 where
  pub made : ℕ
  pub failing : List ℕ
  pub from : ℕ
  pub faults : ℕ

-- Before the first call. At the last number each call fails.
abbrev pub uncalled : List ℕ → CallState
uncalled failing = record { made = 0; failing = failing; from = 2 ^ 64 - 1; faults = 0 }

-- The call to come fails: its number is listed, or is one of those from which on all fail.
abbrev pub fails_next : CallState → Bool
fails_next calls = nat_le calls.from calls.made || list_any (λ number. number == calls.made) calls.failing

-- One call more was made. Which ones fail stays the same.
pub record IsNextCall (old new : CallState) : Type 0 where
  pub counted : new.made ≡ raised old.made
  pub listed : new.failing ≡ old.failing
  pub limit : new.from ≡ old.from

-- After one fault more.
abbrev pub with_fault : CallState → CallState
with_fault calls = record calls { faults = raised calls.faults }

-- After one call more, which was counted as a fault where it fails.
abbrev pub called : CallState → CallState
called calls =
    let begun = record calls { made = raised calls.made } in
    if fails_next calls then with_fault begun else begun
