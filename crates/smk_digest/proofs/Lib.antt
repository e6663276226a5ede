mod Matched
