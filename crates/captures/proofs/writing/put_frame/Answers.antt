-- `put_frame` meets its contract: four pieces, each in the part after those before it.
use mathlib.Core.Path.{◌≡◌, refl, ap, ◌∙◌}
use mathlib.Core.Bool.{false}
use mathlib.Core.List.{List, ◌++◌}
use Prim.Native.Nat.{ℕ, ◌+◌}
use native.Mathlib.Omega.{arith}
use lib.ListN.{length, take, drop, length-take}
use Rattle.framing.specs.Cmdu.{header_bytes_lem}
use Rattle.keys.specs.Keys.{sender_of_lem, sender_bytes}
use Rattle.captures.specs.Form.{record_header_lem, seconds_in, microseconds_in}
use Rattle.captures.specs.Writing.{ethernet_header_lem, fields_of}
use Rattle.captures.proofs.Putting.{copied, headed}
use borrow.Author.Rules.{rules}
use Rattle.captures.proofs.writing.put_frame.Goals as goal

pub slice_bounds-copy_from_slice-end-2 : goal.slice_bounds-copy_from_slice-end-2
slice_bounds-copy_from_slice-end-2 c =
    let long : 16 ≡ length (take 16 c.args.out.now) = simp length-take (omega arith) in
    long

pub copy_from_slice-requires : goal.copy_from_slice-requires
copy_from_slice-requires c = rw c.record_header-stamp.ensures (simp length-take (omega arith))

pub returns : goal.returns
returns c =
    let args = c.args in
    let p = args.payload.now in
    let o = args.out.now in
    let stamp : ℕ → List ℕ = λ n. record_header_lem false (seconds_in args.a.time) (microseconds_in args.a.time) n in
    let ethernet = ethernet_header_lem (sender_bytes (sender_of_lem args.a.key)) in
    let cmdu = header_bytes_lem (fields_of args.a) in
    let size : 22 + length p ≡ length (ethernet ++ (cmdu ++ p)) = omega arith in
    let s1 = c.copy_from_slice.ensures.after ∙ c.record_header-stamp.ensures in
    let e1 = ap (λ (l : List ℕ). l ++ drop 16 o) s1 in
    let s2 = c.copy_from_slice-2.ensures.after ∙ c.ethernet_header-ethernet.ensures in
    let e2 = copied (stamp (22 + length p)) o _ _ 16 refl e1 ethernet 14 refl s2 in
    let s3 = c.write_cmdu_header.ensures.bytes in
    let begun = stamp (22 + length p) ++ ethernet in
    let e3 = headed begun o _ _ 30 refl e2 _ _ c.fields_of.ensures (search rules) s3 in
    let s4 = c.copy_from_slice-3.ensures.after in
    let e4 = copied (begun ++ cmdu) o _ _ 38 refl e3 p _ (omega arith) s4 in
    e4 ∙ ap (λ (n : ℕ). (stamp n ++ (ethernet ++ (cmdu ++ p))) ++ drop (38 + length p) o) size
