-- The bytes of responses, and of a client's requests (RFC 9112, sections 3 to 6).
use Rattle.std.specs.Prelude.{ℕ, Bool, true, false, List, [], ◌++◌, length, Option, Some, None, if◌then◌else◌, ◌==◌, decimal, codes}
use Rattle.http_wire.specs.declared.message.HttpResponse.{HttpResponse}

-- the reason that stands beside a status; other statuses than these have none
abbrev pub reason : ℕ → List ℕ
reason s =
    if s == 200 then codes "OK"
    else (if s == 400 then codes "Bad Request"
    else (if s == 404 then codes "Not Found"
    else (if s == 405 then codes "Method Not Allowed"
    else (if s == 411 then codes "Length Required"
    else (if s == 413 then codes "Content Too Large"
    else (if s == 429 then codes "Too Many Requests"
    else (if s == 431 then codes "Request Header Fields Too Large"
    else (if s == 503 then codes "Service Unavailable" else []))))))))

-- the field that names the method which is allowed
abbrev pub allow_line : Option (List ℕ) → List ℕ
allow_line (Some m) = codes "Allow: " ++ (m ++ codes "\r\n")
allow_line None = []

-- the field that closes the connection
abbrev pub close_line : Bool → List ℕ
close_line true = codes "Connection: close\r\n"
close_line false = []

-- the head of a response of these parts, with the empty line that ends it
abbrev pub head_of : (status : ℕ) (why : List ℕ) (n : ℕ) (allow close : List ℕ) → List ℕ
head_of status why n allow close =
    codes "HTTP/1.1 " ++ (decimal status ++ (codes " " ++ (why
    ++ (codes "\r\nContent-Type: application/json\r\nContent-Length: " ++ (decimal n ++ (codes "\r\n"
    ++ (allow ++ (close ++ codes "\r\n"))))))))

abbrev pub response_head : HttpResponse → List ℕ
response_head r = head_of r.status (reason r.status) (length r.body) (allow_line r.allow) (close_line r.close)

-- a response
abbrev pub response_text : HttpResponse → List ℕ
response_text r = response_head r ++ r.body

-- the requests of a client
abbrev pub post_head : (target : List ℕ) (n : ℕ) → List ℕ
post_head target n =
    codes "POST " ++ (target ++ (codes " HTTP/1.1\r\nHost: pengines\r\nContent-Length: " ++ (decimal n ++ codes "\r\n\r\n")))

abbrev pub post_text : (target body : List ℕ) → List ℕ
post_text target body = post_head target (length body) ++ body

abbrev pub get_text : (target : List ℕ) → List ℕ
get_text target = codes "GET " ++ (target ++ codes " HTTP/1.1\r\nHost: pengines\r\n\r\n")
