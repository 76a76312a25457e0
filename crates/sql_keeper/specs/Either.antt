-- What a keeper of either kind tells.
use Rattle.std.specs.Prelude.{ℕ, ◌^◌, Option, None, Some, IfSome}
use Rattle.name_core.specs.Namespace.{Namespace}
use Rattle.name_core.specs.Pages.{AreNamed}
use Rattle.sql_keeper.specs.declared.either.EitherKeeper.{EitherKeeper}
use Rattle.sql_keeper.specs.declared.either.Place.{Place}
use Rattle.sql_keeper.specs.declared.either.Place.TheVariants.{Memory, Sqlite}

-- The names in memory, and none that are told in a database.
abbrev pub told_at : Place → Namespace → Option Namespace
told_at Memory names = Some names
told_at Sqlite names = None

abbrev pub names_told : EitherKeeper → Option Namespace
names_told keeper = told_at keeper.place keeper.memory.names

-- How many puts there is room for: more than a record has, in a database.
abbrev pub spare_at : Place → ℕ → ℕ
spare_at Memory spare = spare
spare_at Sqlite spare = 2 ^ 64

abbrev pub spare_of : EitherKeeper → ℕ
spare_of keeper = spare_at keeper.place keeper.memory.spares

-- What is told is named.
pub named_at : (place : Place) (names : Namespace) → AreNamed names → IfSome (told_at place names) AreNamed
named_at Memory names named = named
named_at Sqlite names named = tt
