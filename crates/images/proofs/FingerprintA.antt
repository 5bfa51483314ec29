-- Server A's fingerprint, from its page bytes: its image, byte for byte, and the SHA-256 of that. tests/unit/test_model_fingerprint.py holds both
-- against the model and sha256sum.
use Rattle.std.specs.Prelude.{◌≡◌, refl, List, [], ◌∷◌, ℕ}
use Rattle.std.proofs.Common.{ap, ◌∙◌}
use Rattle.bits.specs.Lists.{tabulate}
use Rattle.table.specs.declared.CpuidResults.{CpuidResults}
use Rattle.table.specs.Order.{row_order}
use Rattle.build.specs.Build.{answer}
use Rattle.image.specs.Image.{image_in, image}
use Rattle.sha256.specs.Block.{Σ₀, Σ₁, σ₀, σ₁, constants, word_at, words, next_word, with_next, schedule, turn, turns, added, compress}
use Rattle.sha256.specs.Sha256.{big_endian, padding, padded, initial, hashed, digest_of, sha256}
use Rattle.fingerprint.specs.Fingerprint.{fingerprint}
use Rattle.page_sets.specs.PageSets.{server_a}
use Rattle.page_sets.specs.Evaluation.{first_edition, passed}
use Rattle.page_sets.specs.Pass.{passed_table}
use Rattle.page_sets.specs.PassLaws.{verdict_passed, table_passed}
use Rattle.images.specs.FingerprintA.{digest_a, digest_a_lem, image_a_lem}

pub fingerprint_a : fingerprint (answer first_edition server_a).table ≡ digest_a
unfolding fingerprint
fingerprint_a = ap sha256 image_a_lem ∙ digest_a_lem
