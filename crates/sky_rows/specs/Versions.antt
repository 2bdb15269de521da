-- Versions of which each transaction has written at most one.
use Rattle.std.specs.Prelude.{◌≡◌, List, [], ◌∷◌, None}
use Rattle.sky_keys.specs.declared.version.Version.{Version}
use Rattle.sky_keys.specs.Versions.{version_of}

-- no two of the versions are of one transaction
abbrev pub IsOneOfEach : List Version → Type 0
IsOneOfEach [] = Unit {0}
IsOneOfEach (v ∷ vs) = (version_of v.txid vs ≡ None) × IsOneOfEach vs
