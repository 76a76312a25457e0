-- Needles in memory, by their places.
use Rattle.std.specs.Prelude.{ℕ, Bool, refl, ◌-◌, ◌%◌, ◌^◌, nat_lt, ◌&&◌, if◌then◌else◌, List, Option, None, Some, slice_get, option_and_then}
use Rattle.file_id.specs.declared.fid.Fid.{Fid}
use Rattle.entry.specs.Needles.{Needles, NeedleText, same_fid}
use Rattle.weed_base.specs.Calls.{CallState}
use Rattle.weed_base.specs.MemForms.{calls_code}
use Rattle.std.specs.Coded.{Coded, code_by, coded×, coded_ℕ, coded_list, coded_bool}

-- The needles from the key 1 on, the calls, and how often a needle wasn't held.
pub record BlobsState : Type 0 where
  pub needles : List NeedleText
  pub calls : CallState
  pub misses : ℕ

-- The code of a needle: that of its fields.
abbrev pub needle_code : Coded NeedleText
needle_code = code_by (List ℕ × Bool) (coded× (coded_list coded_ℕ) coded_bool) (λ needle. (needle.bytes, needle.is_held)) (λ p. record { bytes = p.0; is_held = p.1 }) (λ _. refl)

-- The code of what blobs hold: that of its fields.
abbrev pub blobs_code : Coded BlobsState
blobs_code =
    code_by (List NeedleText × (CallState × ℕ)) (coded× (coded_list needle_code) (coded× calls_code coded_ℕ))
    (λ blobs. (blobs.needles, (blobs.calls, blobs.misses)))
    (λ p. record { needles = p.0; calls = p.1.0; misses = p.1.1 })
    (λ _. refl)

-- The id of a key: in volume 1, with the key's low half as its cookie.
abbrev pub fid_at : ℕ → Fid
fid_at key = record { volume = 1; key = key; cookie = key % 2 ^ 32 }

-- The place of an id's needle.
abbrev pub index_of : Fid → Option ℕ
index_of fid = if nat_lt 0 fid.key && same_fid fid (fid_at fid.key) then Some (fid.key - 1) else None

-- The needles by their ids.
abbrev pub needles_in : List NeedleText → Needles
needles_in needles fid = option_and_then (λ i. slice_get needles i) (index_of fid)
