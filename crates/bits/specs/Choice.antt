-- A choice by a test, as every rule of document 01 makes it.
use Rattle.std.specs.Prelude.{Bool, true, false}

-- a where the test holds, b where it does not
abbrev pub pick {ℓ} : {A : Type ℓ} → Bool → A → A → A
pick true a b = a
pick false a b = b
