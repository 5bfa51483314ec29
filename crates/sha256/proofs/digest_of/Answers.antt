-- `sha256::digest_of` meets its contract: each word where it belongs.
use Rattle.std.proofs.Common.{◌≡◌, ◌∙◌}
use Rattle.sha256.specs.Sha256.{big_endian, digest_of}
use Rattle.sha256.specs.Sha256Laws.{bytes_as}
use Rattle.sha256.proofs.digest_of.Goals as goal

pub returns : goal.returns
unfolding digest_of big_endian
returns c =
    let s = c.args.s in
    let a : c.copy_from_slice.new.self ≡ big_endian 4 s.a = c.copy_from_slice.ensures.after ∙ c.to_be_bytes.ensures ∙ bytes_as 4 s.a in
    let b : c.copy_from_slice-2.new.self ≡ big_endian 4 s.b = c.copy_from_slice-2.ensures.after ∙ c.to_be_bytes-2.ensures ∙ bytes_as 4 s.b in
    let d : c.copy_from_slice-3.new.self ≡ big_endian 4 s.c = c.copy_from_slice-3.ensures.after ∙ c.to_be_bytes-3.ensures ∙ bytes_as 4 s.c in
    let e : c.copy_from_slice-4.new.self ≡ big_endian 4 s.d = c.copy_from_slice-4.ensures.after ∙ c.to_be_bytes-4.ensures ∙ bytes_as 4 s.d in
    let f : c.copy_from_slice-5.new.self ≡ big_endian 4 s.e = c.copy_from_slice-5.ensures.after ∙ c.to_be_bytes-5.ensures ∙ bytes_as 4 s.e in
    let g : c.copy_from_slice-6.new.self ≡ big_endian 4 s.f = c.copy_from_slice-6.ensures.after ∙ c.to_be_bytes-6.ensures ∙ bytes_as 4 s.f in
    let h : c.copy_from_slice-7.new.self ≡ big_endian 4 s.g = c.copy_from_slice-7.ensures.after ∙ c.to_be_bytes-7.ensures ∙ bytes_as 4 s.g in
    let i : c.copy_from_slice-8.new.self ≡ big_endian 4 s.h = c.copy_from_slice-8.ensures.after ∙ c.to_be_bytes-8.ensures ∙ bytes_as 4 s.h in
    rw (a, b, d, e, f, g, h, i)
