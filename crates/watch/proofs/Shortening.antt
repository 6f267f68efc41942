-- A window that is shortened (rule H10).
use Rattle.std.proofs.Common.{◌≡◌, ℕ, ◌-◌, ◌≤◌, Bool, List, ◌++◌, length, take, drop, sym, ap, ◌∙◌, append_assoc, arith, length-append, length-drop, length-take-le, take_all, drop-drop}
use Rattle.std.proofs.lemmas.Slice.{take-put_mid, drop-put_mid}
use borrow.Rule.Slice.PartMut.{put_mid}
use Rattle.captures.specs.Form.{field_bytes}
use Rattle.house.specs.Windows.{is_high_first, shortened}
use Rattle.watch.proofs.Refilling.{counted}

-- both lengths of a full window's record, where its `have` bytes are w, and the field f is put over each of them
module _ (bytes w f : List ℕ) (have : ℕ) (size : length bytes ≡ 131072) (inside : have ≤ 131072) (view : take have bytes ≡ w) (full : length w ≡ 131072) (four : length f ≡ 4) where
  all : have ≡ 131072
  all = sym (counted bytes w have size inside view) ∙ full

  same : bytes ≡ w
  same = sym (take_all have bytes (omega (arith, size, all))) ∙ view

  abbrev once : List ℕ
  once = put_mid 32 4 w f

  front : take 36 once ≡ take 32 w ++ f
  front = take-put_mid 32 4 w f 36 (omega (arith, four)) (omega (arith, full))

  rest : drop 4 (drop 36 once) ≡ drop 40 w
  rest = drop-drop 4 36 once ∙ drop-put_mid 32 4 w f 40 (omega arith) (omega (arith, full)) four

  twice : put_mid 36 4 once f ≡ take 32 w ++ (f ++ (f ++ drop 40 w))
  twice = (λ i. front i ++ (f ++ rest i)) ∙ append_assoc (take 32 w) f (f ++ drop 40 w)

  fits : length (take 32 w ++ (f ++ (f ++ drop 40 w))) ≤ have
  fits = simp (length-append, length-drop) (omega (arith, length-take-le 32 w (omega (arith, full)), four, full, all))

  pub both : (first second : List ℕ) → first ≡ f → second ≡ f → (o : Bool) → is_high_first bytes ≡ o → f ≡ field_bytes o 4 131032
      → take have (put_mid 36 4 (put_mid 32 4 bytes first) second) ≡ shortened w
  unfolding shortened
  both first second a b o high is =
      let long : 131032 ≡ length w - 40 = omega (arith, full) in
      let field : f ≡ field_bytes (is_high_first w) 4 (length w - 40) = is ∙ (λ i. field_bytes (sym (ap is_high_first (sym same) ∙ high) i) 4 (long i)) in
      (λ i. take have (put_mid 36 4 (put_mid 32 4 (same i) (a i)) (b i)))
      ∙ ap (take have) twice
      ∙ take_all have (take 32 w ++ (f ++ (f ++ drop 40 w))) fits
      ∙ (λ i. take 32 w ++ (field i ++ (field i ++ drop 40 w)))
