-- What was read so far of the bytes that a reader is known to give.
use Rattle.std.proofs.Common.{◌≡◌, ℕ, ◌≤◌, List, [], ◌++◌, length, take, Option, Some, None, IfSome, append_assoc, arith, refl, sym, ap, ◌∙◌}
use Rattle.std.proofs.lemmas.List.{append-nil, nil_from_length, take_all, take-append-le}
use Rattle.std.specs.Io.KnownBytes.{Consumes, IsAtEnd}

pub consumes_nothing : (known : Option (List ℕ)) → Consumes known known []
consumes_nothing None = tt
consumes_nothing (Some bytes) = refl

pub consumes_more : (first mid last : Option (List ℕ)) (xs ys : List ℕ) → Consumes first mid xs → Consumes mid last ys → Consumes first last (xs ++ ys)
consumes_more None mid last xs ys one two = tt
consumes_more (Some bytes) None last xs ys one two = absurd one
consumes_more (Some bytes) (Some more) None xs ys one two = absurd two
consumes_more (Some bytes) (Some more) (Some rest) xs ys one two =
    one ∙ ap (λ (zs : List ℕ). xs ++ zs) two ∙ sym (append_assoc xs ys rest)

-- after a read that gave nothing all known bytes were read
pub front_at_end : (first mid last : Option (List ℕ)) (out more : List ℕ) (cap : ℕ) → Consumes first mid out → Consumes mid last more → length more ≡ 0 → IsAtEnd last → length out ≤ cap → IfSome first (λ bytes. out ≡ take cap bytes)
front_at_end None mid last out more cap read last_read none ends most = tt
front_at_end (Some bytes) None last out more cap read last_read none ends most = absurd read
front_at_end (Some bytes) (Some rest) None out more cap read last_read none ends most = absurd last_read
front_at_end (Some bytes) (Some rest) (Some left) out more cap read last_read none ends most =
    let nothing : rest ≡ [] = last_read ∙ ap (λ (zs : List ℕ). more ++ zs) ends ∙ append-nil more ∙ nil_from_length more none in
    let all : bytes ≡ out = read ∙ ap (λ (zs : List ℕ). out ++ zs) nothing ∙ append-nil out in
    sym (ap (take cap) all ∙ take_all cap out most)

-- with `cap` bytes read, they are the first
pub front_at_cap : (first last : Option (List ℕ)) (out : List ℕ) (cap : ℕ) → Consumes first last out → length out ≡ cap → IfSome first (λ bytes. out ≡ take cap bytes)
front_at_cap None last out cap read full = tt
front_at_cap (Some bytes) None out cap read full = absurd read
front_at_cap (Some bytes) (Some rest) out cap read full =
    let low : cap ≤ length out = omega arith in
    let high : length out ≤ cap = omega arith in
    sym (ap (take cap) read ∙ take-append-le cap out rest low ∙ take_all cap out high)
