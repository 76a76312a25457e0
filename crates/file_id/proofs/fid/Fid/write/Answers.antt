use Rattle.std.proofs.Common.{◌≡◌, append_assoc, arith, ◌∙◌, ap, length, ℕ, length-append}
use Rattle.std.proofs.lemmas.Grind.{common_steps}
use Rattle.hex.specs.Hex.{lower_digits}
use Rattle.hex.proofs.HexLemmas.{length-encode_with}
use Rattle.file_id.specs.FileId.{text_of}
use Rattle.file_id.specs.Reading.{fid_of}
use Rattle.file_id.proofs.Written.{written_reads}
use Rattle.file_id.proofs.fid.Fid.write.Goals as goal

pub append_hex-requires-2 : goal.append_hex-requires-2
append_hex-requires-2 c = omega (arith, c.format.ensures.fits, ap length c.as_bytes.ensures.value, ap length c.empty-text.ensures, ap length c.append.ensures, ap length c.append-2.ensures, ap length c.append_hex.ensures, c.key_bytes.ensures.few, length-append {A = ℕ}, length-encode_with lower_digits c.key_bytes.result.now, ap length c.to_be_bytes-2.ensures)

pub returns-clause-read_back : goal.returns-clause-read_back
unfolding text_of
returns-clause-read_back c =
    let written : c.append_hex-2.new.self ≡ text_of c.args.self.now = grind (arith, common_steps, append_assoc) in
    ap fid_of written ∙ written_reads c.args.self.now (omega arith) (omega arith) (omega arith)
