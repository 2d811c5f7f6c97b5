-- Ranks written to cells as values, one after the other.
use Rattle.std.proofs.Common.{◌≡◌, ℕ, zero, suc, ◌+◌, ◌*◌, ◌<◌, ◌≤◌, List, [], ◌∷◌, ◌++◌, length, get_or, take, drop, set, Option, unwrap_or, sym, refl, ap, ◌∙◌, ap₂, append_assoc, arith}
use Rattle.std.proofs.lemmas.List.{length-append, drop_all, drop_more, drop-set-lt, take-append-drop, take_more_set}
use Rattle.study.specs.Values.{written}

-- one more rank is written: its member, or what stood there if it has none
pub write_more : {V : Type 0} (member : ℕ → Option V) (ranks : List ℕ) (cells : List V) (k i : ℕ) (c v : V) → i < length ranks → k < length cells → c ≡ get_or cells k c → v ≡ unwrap_or (member (get_or ranks i 0)) c → take (k + 1) (set cells k v) ++ written member (drop (i + 1) ranks) (drop (k + 1) (set cells k v)) ≡ take k cells ++ written member (drop i ranks) (drop k cells)
write_more member ranks cells k i c v hi hk read e =
    let here : drop k cells ≡ c ∷ drop (k + 1) cells = drop_more cells k c hk ∙ ap (λ x. x ∷ drop (k + 1) cells) (sym read) in
    ap₂ (λ xs ys. xs ++ written member (drop (i + 1) ranks) ys) (take_more_set cells k v hk) (drop-set-lt (k + 1) cells k v (omega arith))
    ∙ append_assoc (take k cells) (v ∷ []) _
    ∙ ap (λ x. take k cells ++ (x ∷ written member (drop (i + 1) ranks) (drop (k + 1) cells))) e
    ∙ sym (ap₂ (λ rs cs. take k cells ++ written member rs cs) (drop_more ranks i 0 hi) here)

-- nothing is left to be written
pub write_end : {V : Type 0} (member : ℕ → Option V) (ranks : List ℕ) (cells : List V) (k i : ℕ) → length ranks ≤ i → take k cells ++ written member (drop i ranks) (drop k cells) ≡ cells
write_end member ranks cells k i h =
    ap (λ rs. take k cells ++ written member rs (drop k cells)) (drop_all i ranks h) ∙ take-append-drop k cells

-- more ranks are written behind those that were written first
pub written_more : {V : Type 0} (member : ℕ → Option V) (first more : List ℕ) (cells : List V) (n : ℕ) → length first ≡ n → n ≤ length cells → take n (written member first cells) ++ written member more (drop n (written member first cells)) ≡ written member (first ++ more) cells
written_more member [] more cells zero e h = refl
written_more member [] more cells (suc n) e h = absurd (omega arith)
written_more member (r ∷ first) more [] n e h = absurd (omega arith)
written_more member (r ∷ first) more (c ∷ cells) zero e h = absurd (omega arith)
written_more member (r ∷ first) more (c ∷ cells) (suc n) e h =
    ap (λ cs. unwrap_or (member r) c ∷ cs) (written_more member first more cells n (omega arith) (omega arith))

-- four lists of n ranks are written one after the other
pub written_four : {V : Type 0} (member : ℕ → Option V) (a b c d : List ℕ) (cells : List V) (n : ℕ) (s₁ s₂ s₃ s₄ : List V) → length a ≡ n → length b ≡ n → length c ≡ n → 4 * n ≤ length cells → s₁ ≡ written member a cells → s₂ ≡ take n s₁ ++ written member b (drop n s₁) → s₃ ≡ take (2 * n) s₂ ++ written member c (drop (2 * n) s₂) → s₄ ≡ take (3 * n) s₃ ++ written member d (drop (3 * n) s₃) → s₄ ≡ written member (a ++ (b ++ (c ++ d))) cells
written_four member a b c d cells n s₁ s₂ s₃ s₄ la lb lc room e₁ e₂ e₃ e₄ =
    let two : s₂ ≡ written member (a ++ b) cells =
    e₂ ∙ ap (λ s. take n s ++ written member b (drop n s)) e₁ ∙ written_more member a b cells n la (omega arith) in
    let three : s₃ ≡ written member ((a ++ b) ++ c) cells =
    e₃ ∙ ap (λ s. take (2 * n) s ++ written member c (drop (2 * n) s)) two ∙ written_more member (a ++ b) c cells (2 * n) (length-append a b ∙ omega arith) (omega arith) in
    e₄ ∙ ap (λ s. take (3 * n) s ++ written member d (drop (3 * n) s)) three
    ∙ written_more member ((a ++ b) ++ c) d cells (3 * n) (length-append (a ++ b) c ∙ omega (arith, length-append a b)) (omega arith)
    ∙ ap (λ rs. written member rs cells) (append_assoc (a ++ b) c d ∙ append_assoc a b (c ++ d))

-- ranks are written alike by chains with the same members
pub written_same : {V : Type 0} (f g : ℕ → Option V) → ((k : ℕ) → f k ≡ g k) → (ranks : List ℕ) (cells : List V) → written f ranks cells ≡ written g ranks cells
written_same f g alike [] cells = refl
written_same f g alike (k ∷ ranks) [] = refl
written_same f g alike (k ∷ ranks) (c ∷ cells) =
    ap (λ o. unwrap_or o c ∷ written f ranks cells) (alike k) ∙ ap (λ cs. unwrap_or (g k) c ∷ cs) (written_same f g alike ranks cells)
