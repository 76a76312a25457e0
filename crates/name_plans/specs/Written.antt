-- What a write that is handed over says.
use Rattle.name_plans.specs.declared.writing.Writing.{Writing}
use Rattle.name_plans.specs.Writing.{Written}

abbrev pub written_of : Writing → Written
written_of w = record { at = w.at; pieces = w.pieces.now; size = w.length; mime = w.mime.now; md5 = w.md5 }
