-- What each phase behind the syntax keeps of the tree of a source.
use Rattle.std.specs.Prelude.{true, false, not, codes}
use Rattle.ec_language.specs.Letters.{same_word}
use Rattle.ec_written_laws.specs.source.Kept.{Kept}

-- the phase of declare sections: VARCHAR is the type of what a declaration declares alone
abbrev pub by_sections : Kept
by_sections = record {
  other_calls = true;
  varchar_types = false;
  tag = λ t. true;
}

-- the checks: each call is by a name, and no tag is EXEC
abbrev pub by_checks : Kept
by_checks = record {
  other_calls = false;
  varchar_types = true;
  tag = λ t. not (same_word t (codes "EXEC"));
}
