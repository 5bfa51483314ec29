-- Finished registers fit 32 bits where the masked ones do.
use Rattle.std.specs.Prelude.{Bool, true, false, ℕ}
use Rattle.std.proofs.Common.{lit<}
use Rattle.bits.specs.Choice.{pick}
use Rattle.x86defs.specs.declared.CpuidResult.{CpuidResult}
use Rattle.table.specs.Rows.{Rows, row, vacant}
use Rattle.table.specs.Fits.{Fits}
use Rattle.finish.specs.Finish.{Rule, Settings, rule_at, settings, finish, remains, finished}
use Rattle.finish.specs.Finish.Rule.{made, needed, component}
use Rattle.finish.specs.FitLaws.{SettingsFit, change_fits, make_fits}

finish_fits : (c : Settings) → SettingsFit c → (t : Rule) (r : CpuidResult) → Fits r → Fits (finish c t r)
finish_fits c s (made t) r f = make_fits t
finish_fits c s (needed t) r f = change_fits c s t r f
finish_fits c s (component k) r f = f

-- all rows, the absent ones included
pub finished_fits : (n : ℕ) (m : Rows) → SettingsFit (settings n m) → (i : ℕ) → Fits (m i).result → Fits (finished n m i).result
unfolding finished
finished_fits n m s i f = go (remains (settings n m) (rule_at i) (m i).present)
  where
    go : (b : Bool) → Fits (pick b (row (finish (settings n m) (rule_at i) (m i).result)) vacant).result
    go true = finish_fits (settings n m) s (rule_at i) (m i).result f
    go false = record { eax = lit< tt; ebx = lit< tt; ecx = lit< tt; edx = lit< tt }
