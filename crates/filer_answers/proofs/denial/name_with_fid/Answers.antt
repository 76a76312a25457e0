use Rattle.std.proofs.Common.{◌<◌, ◌^◌, sym, subst, ◌∙◌, rules}
use Rattle.std.specs.Str.{IsUtf8}
use Rattle.filer_answers.proofs.FidText.{fid_text_is_utf8}
use Rattle.filer_answers.proofs.denial.name_with_fid.Goals as goal

pub str_of-digits-requires : goal.str_of-digits-requires
str_of-digits-requires c =
    let fits : c.args.fid.volume < 2 ^ 32 = search rules in
    subst IsUtf8 (sym (c.as_slice.ensures.text ∙ c.write-text.ensures.text)) (fid_text_is_utf8 c.args.fid fits)
