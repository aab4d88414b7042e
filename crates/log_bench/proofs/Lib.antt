mod Repeated
