-- The first lines of a request, as they are written.
use Rattle.std.proofs.Common.{◌≡◌, ℕ, List, ◌∷◌, ◌++◌, codes, sym, ap, ◌∙◌, append_assoc}
use Rattle.http_head.specs.declared.head.Method.{Method}
use Rattle.http_client.specs.Request.{method_name, request_line, host_line}

-- the method and the target, and what stands behind them
pub front_lines : (method : Method) (target host : List ℕ)
    → (method_name method ++ (codes " " ++ target)) ++ (codes " HTTP/1.1\r\nHost: " ++ (host ++ codes "\r\n")) ≡ request_line method target ++ host_line host
front_lines method target host =
    let name = method_name method in
    append_assoc name (32 ∷ target) (codes " HTTP/1.1\r\nHost: " ++ (host ++ codes "\r\n"))
    ∙ sym (append_assoc name (32 ∷ (target ++ codes " HTTP/1.1\r\n")) (host_line host) ∙ ap (λ xs. name ++ 32 ∷ xs) (append_assoc target (codes " HTTP/1.1\r\n") (host_line host)))
