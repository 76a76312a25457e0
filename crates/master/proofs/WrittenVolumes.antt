-- The volumes of a heartbeat, written one after another.
use Rattle.std.proofs.Common.{◌≡◌, ℕ, ◌+◌, ◌<◌, List, ◌++◌, take, length, sym, ap, ◌∙◌, get_or}
use Rattle.std.proofs.lemmas.List.{take_more, flat_map_more}
use Rattle.proto_wire.specs.Text.{message_field}
use Rattle.topology.specs.declared.report.VolumeReport.{VolumeReport}
use Rattle.master.specs.HeartbeatWriting.{volume_text, volumes_text}

-- The text with one volume more
pub volume_more : (front : List ℕ) (reports : List VolumeReport) (i : ℕ) (x : VolumeReport) → i < length reports → x ≡ get_or reports i x
    → (front ++ volumes_text (take i reports)) ++ message_field 7 (volume_text x) ≡ front ++ volumes_text (take (i + 1) reports)
volume_more front reports i x within at =
    ap (λ r. (front ++ volumes_text (take i reports)) ++ message_field 7 (volume_text r)) at
    ∙ flat_map_more (λ r. message_field 7 (volume_text r)) front (take i reports) (get_or reports i x)
    ∙ ap (λ rs. front ++ volumes_text rs) (sym (take_more reports i x within))
