use Rattle.std.proofs.Common.{◌≡◌, ◌∙◌, ◌∷◌, [], ◌+◌, length, ltb, eqb, not, ap, sym}
use Rattle.std.specs.List.{list_any}
use Rattle.std.specs.Str.{is_utf8}
use Rattle.weed_base.specs.Path.{parts_of}
use Rattle.weed_base.specs.PathFaults.{first_fault, fault_if, part_fault}
use Rattle.weed_base.specs.declared.path_fault.PathFault.TheVariants.{SlashInName, TooLong, NulByte, NotUtf8, TooDeep}
use Rattle.weed_base.proofs.PathLemmas.{depth_is_count}
use Rattle.weed_base.proofs.PathFaultLemmas.{join_fault_is}
use Rattle.weed_base.proofs.path_check.fault_of_join.Goals as goal

pub returns : goal.returns
returns c =
    let bytes = c.args.bytes.now in
    let depth : c.slash_count.result ≡ length (parts_of bytes) = c.slash_count.ensures ∙ sym (depth_is_count bytes) in
    c.fault_of_name.ensures
    ∙ ap (λ deep. first_fault
    (fault_if (list_any (λ b. eqb b 47) c.args.name.now) SlashInName
    ∷ fault_if (ltb 4096 (length bytes + 1 + length c.args.name.now)) TooLong
    ∷ fault_if (list_any (λ b. eqb b 0) c.args.name.now) NulByte
    ∷ fault_if (not (is_utf8 c.args.name.now)) NotUtf8
    ∷ part_fault c.args.name.now
    ∷ fault_if (ltb 64 (deep + 1)) TooDeep
    ∷ [])) depth
    ∙ sym (join_fault_is bytes c.args.name.now (c.requires.spelling, c.requires.path))
