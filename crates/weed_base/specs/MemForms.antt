-- The outside in memory: what each form holds.
use Rattle.std.specs.Prelude.{◌≡◌, ◌<◌, ◌⊎◌, ◌-◌, ◌^◌, ℕ, List, [], ◌∷◌, ◌++◌, length, min, Result, MatchResult, IsTrue, IsErr, IfOk, refl}
use Rattle.std.specs.Coded.{Coded, code_by, coded×, coded_list, coded_ℕ}
use Rattle.std.specs.FinMap.{code}
use Rattle.weed_base.specs.Told.{raised}
use Rattle.weed_base.specs.Calls.{CallState, fails_next, uncalled, IsNextCall}
use Rattle.weed_base.specs.Files.{Files}
use Rattle.weed_base.specs.History.{reads, Image, ImageSince}
use Rattle.weed_base.specs.Sent.{Piece}
use Rattle.weed_base.specs.contracts.mem.change.Call as call
use Rattle.weed_base.specs.declared.mem.change.Call.{Call}
use Rattle.weed_base.specs.declared.mem.change.Change.{Change}
use Rattle.weed_base.specs.declared.mem.change.Change.TheVariants.{Written, Torn}

-- A source: the bytes left, the most that one read gives, and its calls.
pub record SourceState : Type 0 where
  pub left : List ℕ
  pub most : ℕ
  pub calls : CallState

-- A sink: the bytes written, the most that one write takes, and its calls.
pub record SinkState : Type 0 where
  pub written : List ℕ
  pub most : ℕ
  pub calls : CallState

-- A disk: its files at the start, the calls that changed or settled them, the newest first, its calls, and how many
-- failed writes it lacked memory to keep.
pub record DiskState : Type 0 where
  pub start : Files
  pub past : List Call
  pub calls : CallState
  pub untold : ℕ

-- The code of calls: that of the fields.
abbrev pub calls_code : Coded CallState
calls_code =
    code_by (ℕ × (List ℕ × (ℕ × ℕ))) (coded× coded_ℕ (coded× (coded_list coded_ℕ) (coded× coded_ℕ coded_ℕ)))
    (λ calls. (calls.made, (calls.failing, (calls.from, calls.faults))))
    (λ p. record { made = p.0; failing = p.1.0; from = p.1.1.0; faults = p.1.1.1 })
    (λ _. refl)

-- The code of what a disk holds: that of its fields.
abbrev pub disk_code : Coded DiskState
disk_code =
    code_by (Files × (List Call × (CallState × ℕ))) (coded× (code (coded_list coded_ℕ) (coded_list coded_ℕ)) (coded× (coded_list call.the_row.coded) (coded× calls_code coded_ℕ)))
    (λ disk. (disk.start, (disk.past, (disk.calls, disk.untold))))
    (λ p. record { start = p.0; past = p.1.0; calls = p.1.1.0; untold = p.1.1.1 })
    (λ _. refl)

-- A disk of these files, all of them settled, of which the calls with these numbers fail.
abbrev pub disk_of : Files → List ℕ → DiskState
disk_of files failing = record { start = files; past = []; calls = uncalled failing; untold = 0 }

-- The files as they read now.
abbrev pub present : DiskState → Files
present disk = reads disk.start disk.past

-- What a crash now may leave.
abbrev pub images : DiskState → Files → Type 0
images disk = Image disk.start disk.past

-- What a crash at a moment from that tick on might have left.
abbrev pub images_since : DiskState → ℕ → Files → Type 0
images_since disk = ImageSince disk.start disk.past disk.calls.made

-- A call of a memory disk has its number, and fails where the disk was told so.
pub record IsDiskCall {T E : Type 0} (old new : DiskState) (result : Result T E) : Type 0 where
  pub next : IsNextCall old.calls new.calls
  pub start : new.start ≡ old.start
  pub fails : IsTrue (fails_next old.calls) → IsErr result

-- The calls with one more, which made a change.
abbrev pub with_call : Change → DiskState → List Call
with_call change disk = record { tick = disk.calls.made; change = change } ∷ disk.past

-- A call made a change, or none where it failed.
pub record Makes {T E : Type 0} (change : Change) (old new : DiskState) (result : Result T E) : Type 0 where
  pub past : MatchResult result (λ _. new.past ≡ with_call change old) (λ _. new.past ≡ old.past)
  pub untold : new.untold ≡ old.untold

-- A failed write left its range unsettled. Where memory was lacking to keep that, it is counted as untold. At the
-- last number no call is kept.
abbrev pub LeavesTorn : Change → DiskState → DiskState → Type 0
LeavesTorn torn old new =
    ((new.past ≡ with_call torn old) × (new.untold ≡ old.untold))
    ⊎ ((new.past ≡ old.past) × ((new.untold ≡ raised old.untold) ⊎ ((new.untold ≡ old.untold) × (old.calls.made ≡ 2 ^ 64 - 1))))

-- The same of the calls as they are kept, the oldest first.
abbrev pub KeepsTorn : Call → List Call → List Call → ℕ → ℕ → Type 0
KeepsTorn torn old new untold_before untold =
    ((new ≡ old ++ torn ∷ []) × (untold ≡ untold_before) × (torn.tick < 2 ^ 64 - 1))
    ⊎ ((new ≡ old) × ((untold ≡ raised untold_before) ⊎ ((untold ≡ untold_before) × (torn.tick ≡ 2 ^ 64 - 1))))

-- A call wrote, or left its range unsettled where it failed.
abbrev pub WritesOrTears : {T E : Type 0} → List ℕ → ℕ → List ℕ → DiskState → DiskState → Result T E → Type 0
WritesOrTears name at piece old new result =
    MatchResult result
    (λ _. (new.past ≡ with_call (Written name at piece) old) × (new.untold ≡ old.untold))
    (λ _. LeavesTorn (Torn name at (length piece)) old new)

-- A sender: the pieces sent, the most that one send takes, and its sends.
pub record SenderState : Type 0 where
  pub pieces : List Piece
  pub most : ℕ
  pub sends : CallState

-- A send of a memory sender has its number, fails where the sender was told so, and takes as much as it may.
pub record IsNextSend {E : Type 0} (old new : SenderState) (piece : List ℕ) (result : Result ℕ E) : Type 0 where
  pub count : IfOk result (λ count. count ≡ min (length piece) old.most)
  pub fails : IsTrue (fails_next old.sends) → IsErr result
  pub sends : IsNextCall old.sends new.sends
  pub most : new.most ≡ old.most

-- The code of a piece: that of its fields.
abbrev pub piece_code : Coded Piece
piece_code = code_by (ℕ × List ℕ) (coded× coded_ℕ (coded_list coded_ℕ)) (λ piece. (piece.tick, piece.bytes)) (λ p. record { tick = p.0; bytes = p.1 }) (λ _. refl)

-- The code of what a sender holds: that of its fields.
abbrev pub sender_code : Coded SenderState
sender_code =
    code_by (List Piece × (ℕ × CallState)) (coded× (coded_list piece_code) (coded× coded_ℕ calls_code))
    (λ sender. (sender.pieces, (sender.most, sender.sends)))
    (λ p. record { pieces = p.0; most = p.1.0; sends = p.1.1 })
    (λ _. refl)
