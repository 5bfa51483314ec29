-- P7's statements on the two editions, carried from rows to answers.
use Rattle.std.specs.Prelude.{◌≡◌, Bool, true, false, ℕ, eqb}
use Rattle.std.proofs.Math.Path.{refl}
use Rattle.bits.specs.Choice.{pick}
use Rattle.masking.specs.Place
use Rattle.table.specs.Rows.{Row}
use Rattle.table.specs.Edition.{f16c, xop_and_fma4}
use Rattle.rise.specs.Second.{clear_ecx, second_row}

-- clearing bits of ECX leaves which rows are there
pub second_present : (keep : Bool) (i : ℕ) (r : Row) → (second_row keep i r).present ≡ r.present
second_present keep i r = go (eqb i Place.version_and_features) (eqb i Place.extended_version_and_features)
  where
    go : (p q : Bool) → (pick p (clear_ecx keep f16c r) (pick q (clear_ecx keep xop_and_fma4 r) r)).present ≡ r.present
    go true q = refl
    go false true = refl
    go false false = refl
