mod Sids
