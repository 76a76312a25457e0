use Rattle.std.proofs.Common.{ap, sym, ◌∙◌, ℕ}
use Rattle.std.specs.Prelude.{fold}
use Rattle.std.proofs.lemmas.List.Sums.{fold-append}
use Rattle.needle.specs.Crc.{byte_step}
use Rattle.needle.proofs.crc.Checksum.add.Goals as goal

pub returns : goal.returns
returns c = λ so_far run.
    c.run_all-self.ensures ∙ ap (λ (r : ℕ). fold byte_step r c.args.bytes.now) run ∙ sym (fold-append byte_step 0xFFFFFFFF so_far c.args.bytes.now)
